use Rattle.std.proofs.Common.{sym, ◌∙◌}
use Rattle.xq_parse.proofs.Steps.{behind_quote_utf8}
use Rattle.xq_parse.proofs.piece.first_piece.Goals as goal

pub string_piece-requires-clause-utf8 : goal.string_piece-requires-clause-utf8
string_piece-requires-clause-utf8 c = behind_quote_utf8 c.args.bytes.now c.in-len1-up.len_at_least (sym c.is_quote.ensures ∙ c.if-is_quote.true) c.requires
