use Rattle.std.proofs.Common.{length, ap}
use Rattle.xml_model.specs.Changes.{forest_of_layers}
use Rattle.xml_model.proofs.Laying.{no-layers}
use Rattle.xml_model.proofs.Validity.{none_is_forest}
use Rattle.xml_model.proofs.forest.DocMap.new.Goals as goal

pub invariant_of-result : goal.invariant_of-result
invariant_of-result c = none_is_forest (forest_of_layers c.new.result.items) (no-layers c.new.result.items (ap length c.new.ensures.items))

pub returns : goal.returns
returns c = no-layers c.new.result.items (ap length c.new.ensures.items)
