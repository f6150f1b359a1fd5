use Rattle.std.proofs.Common.{◌≡◌, take}
use Rattle.xq_nodes.proofs.made_steps.copy_place.Given as goal

abbrev pub invariant-loop-step : goal.invariant-loop-step
invariant-loop-step l = l.all ≡ take l.step-index l.step-items
