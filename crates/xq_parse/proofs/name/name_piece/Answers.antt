use Rattle.std.proofs.Common.{IsUtf8, subst, ap, ◌∙◌, sym}
use Rattle.xq_parse.proofs.Behind.{name_utf8}
use Rattle.xq_parse.proofs.name.name_piece.Goals as goal

pub text_of-requires : goal.text_of-requires
text_of-requires c =
    subst IsUtf8 (ap (λ x. x.0) c.name_len.ensures.name ∙ sym c.split_at.ensures.front) (name_utf8 c.args.bytes.now c.requires.begins c.requires.utf8)
