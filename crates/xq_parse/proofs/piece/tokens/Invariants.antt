use Rattle.std.proofs.Common.{◌≡◌, length, IsUtf8}
use Rattle.xq_ast.specs.Tokens as spec
use Rattle.xq_parse.proofs.Steps.{Goes}
use Rattle.xq_parse.proofs.piece.tokens.Given as goal

abbrev pub invariant-pieces : goal.invariant-pieces
invariant-pieces l = record {
  utf8 : IsUtf8 l.rest;
  tokens : Goes (λ s. s.token) l.all.tokens (spec.pieces (length l.rest) l.rest) ≡ spec.tokens l.text;
  lengths : Goes (λ s. s.bytes) l.all.lengths (spec.pieces (length l.rest) l.rest) ≡ spec.token_lengths l.text;
}

abbrev pub decreases-pieces : goal.decreases-pieces
decreases-pieces l = length l.rest
