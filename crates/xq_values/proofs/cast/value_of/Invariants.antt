use Rattle.std.proofs.Common.{◌≡◌, ◌≤◌, fold, drop}
use Rattle.xq_ast.specs.Tokens as spec
use Rattle.xq_values.specs.declared.cast.TheConstants.{DIGITS_MAX}
use Rattle.xq_values.proofs.cast.value_of.Given as goal

abbrev pub invariant-loop-digit : goal.invariant-loop-digit
invariant-loop-digit l = (fold spec.digit_more l.value (drop l.digit-index l.digits) ≡ fold spec.digit_more 0 l.digits) × (l.value ≤ DIGITS_MAX)
