use Rattle.std.proofs.Common.{sym}
use Rattle.xml_model.specs.Changes.{forest_of_layers}
use Rattle.xml_model.proofs.Laying.{laid-no-entries}
use Rattle.xml_model.proofs.layers.add_some.Goals as goal

pub returns-then-is_empty : goal.returns-then-is_empty
returns-then-is_empty c = sym (laid-no-entries c.args.changes.now.entries (c.is_empty.ensures.0 c.if-is_empty.true) (forest_of_layers c.args.layers.now.items))
