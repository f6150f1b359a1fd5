use Rattle.std.proofs.Common.{IsUtf8, subst, sym}
use Rattle.xq_parse.proofs.Steps.{string_utf8}
use Rattle.xq_parse.proofs.string.string_piece.Goals as goal

pub text_of-requires : goal.text_of-requires
text_of-requires c =
    subst IsUtf8 (sym c.as_slice.ensures)
    (string_utf8 c.args.quote c.args.bytes.now c.in_ok-text.text.bytes c.in_ok-text.text.rest.now c.requires.ascii c.requires.utf8 c.in_ok-text.ensures)
