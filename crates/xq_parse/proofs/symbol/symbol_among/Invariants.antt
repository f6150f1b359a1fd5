use Rattle.std.proofs.Common.{◌≡◌, drop}
use Rattle.xq_ast.specs.Tokens as spec
use Rattle.xq_parse.specs.Spellings as spellings
use Rattle.xq_parse.proofs.symbol.symbol_among.Given as goal

abbrev pub invariant-loop-symbol : goal.invariant-loop-symbol
invariant-loop-symbol l = spec.first_row (spellings.rows (drop l.symbol-index l.symbols)) l.bytes ≡ spec.first_row (spellings.rows l.symbols) l.bytes
