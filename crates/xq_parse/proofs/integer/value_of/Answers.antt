use Rattle.std.proofs.Common.{arith}
use Rattle.xq_parse.proofs.Steps.{past_limit}
use Rattle.xq_parse.proofs.integer.value_of.Goals as goal

pub returns-then-more-from : goal.returns-then-more-from
returns-then-more-from c = past_limit c.args.digits.now c.loop-digit.digit-index c.loop-digit.value (omega arith) c.loop-digit.invariant.0 (omega arith)
