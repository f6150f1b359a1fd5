use Rattle.std.proofs.Common.{sym, subst, ◌∙◌}
use Rattle.xml_model.specs.Forest.{IsForest}
use Rattle.xml_model.proofs.Laying.{layers-copy}
use Rattle.xml_model.proofs.forest.DocMap.copy.Goals as goal

pub invariant_of-result : goal.invariant_of-result
invariant_of-result c = subst IsForest (sym (layers-copy c.self.inside.layers.items c.in_ok-clone.field-0.items c.in_ok-clone.ensures.cases.0)) c.self.invariant

pub returns : goal.returns
returns c = layers-copy c.self.inside.layers.items c.in_ok-clone.field-0.items c.in_ok-clone.ensures.cases.0 ∙ c.self.view_is
