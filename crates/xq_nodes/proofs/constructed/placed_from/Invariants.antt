use Rattle.std.proofs.Common.{◌≡◌, Some, drop}
use Rattle.xml_model.specs.Place as places
use Rattle.xml_model.specs.TreeRows.{placed_by}
use Rattle.xq_nodes.proofs.constructed.placed_from.Given as goal

abbrev pub invariant-loop-step : goal.invariant-loop-step
invariant-loop-step l = places.placed_from (drop l.step-index l.place) (Some (placed_by l.at)) ≡ places.placed_from l.place (Some (placed_by l.from))
