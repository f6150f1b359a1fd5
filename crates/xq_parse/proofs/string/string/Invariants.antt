use Rattle.std.proofs.Common.{◌≡◌, ◌++◌, length, Some}
use Rattle.xq_ast.specs.Tokens as spec
use Rattle.xq_ast.specs.Tokens.{◌>>=◌}
use Rattle.xq_parse.proofs.string.string.Given as goal

abbrev pub invariant-parts : goal.invariant-parts
invariant-parts l = (spec.string (length l.rest) l.quote l.rest >>= (λ r. Some (l.text ++ r.0, r.1))) ≡ spec.string (length l.bytes) l.quote l.bytes

abbrev pub decreases-parts : goal.decreases-parts
decreases-parts l = length l.rest
