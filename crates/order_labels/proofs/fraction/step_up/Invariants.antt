use Rattle.std.proofs.Common.{◌≤◌, length}
use Rattle.order_labels.proofs.fraction.step_up.Given as goal

-- the place is within the fraction
abbrev pub invariant-loop-at : goal.invariant-loop-at
invariant-loop-at l = l.at ≤ length l.low

-- the place goes down
abbrev pub decreases-loop-at : goal.decreases-loop-at
decreases-loop-at l = l.at
