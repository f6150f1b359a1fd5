use Rattle.std.proofs.Common.{arith}
use Rattle.xq_values.specs.declared.cast.TheConstants.{DIGITS_MAX}
use Rattle.xq_values.proofs.Fronts.{is_past}
use Rattle.xq_values.proofs.cast.value_of.Goals as goal

pub returns-then-more-from : goal.returns-then-more-from
returns-then-more-from c = is_past DIGITS_MAX c.args.digits.now c.loop-digit.digit-index c.loop-digit.value (omega arith) c.loop-digit.invariant.0 (omega arith)
