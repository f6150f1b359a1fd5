use Rattle.std.proofs.Common.{Some, sym, ap, ◌∙◌}
use Rattle.std.specs.Option.{option_map}
use Rattle.xml_model.specs.declared.place.PlaceStep.TheVariants.{Attr}
use Rattle.xml_model.specs.Place as places
use Rattle.xml_model.specs.TreeRows.{placed_by}
use Rattle.xq_nodes.proofs.Places.{stopped}
use Rattle.xq_nodes.proofs.constructed.placed_from.Goals as goal

pub returns-in-None : goal.returns-in-None
returns-in-None c =
    stopped c.args.place.now c.loop-step.step-index (Attr 0) (placed_by c.loop-step.at) (places.placed_from c.args.place.now (Some (placed_by c.args.from))) c.loop-step-test.true
    c.loop-step.invariant (ap (option_map placed_by) (sym c.in-None.is) ∙ c.step_from.ensures)
