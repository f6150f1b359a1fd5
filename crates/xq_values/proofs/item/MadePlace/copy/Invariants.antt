use Rattle.std.proofs.Common.{◌≡◌, take}
use Rattle.xq_values.proofs.item.MadePlace.copy.Given as goal

abbrev pub invariant-loop-step : goal.invariant-loop-step
invariant-loop-step l = l.place ≡ take l.step-index l.step-items
