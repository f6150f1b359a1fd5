use Rattle.std.proofs.Common.{◌≡◌, length}
use Rattle.xq_ast.specs.Readings as spec
use Rattle.xq_parse.proofs.Signs.{in_front}
use Rattle.xq_parse.proofs.cursor.Parser.signs.Given as goal

abbrev pub invariant-signs : goal.invariant-signs
invariant-signs l = in_front l.signs (spec.signs l.self) ≡ spec.signs l.initial.self

abbrev pub decreases-signs : goal.decreases-signs
decreases-signs l = length l.self
