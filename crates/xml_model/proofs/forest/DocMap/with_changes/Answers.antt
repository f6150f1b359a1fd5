use Rattle.std.proofs.Common.{sym, subst, ◌∙◌}
use Rattle.xml_model.specs.Forest.{IsForest}
use Rattle.xml_model.specs.Changes.{laid_over, changes_of_entries, forest_of_layers}
use Rattle.xml_model.proofs.Laying.{layers-copy}
use Rattle.xml_model.proofs.Validity.{laid_is_forest}
use Rattle.xml_model.proofs.forest.DocMap.with_changes.Goals as goal

pub invariant_of-result : goal.invariant_of-result
invariant_of-result c =
    subst IsForest (sym c.in_ok-add_some.ensures)
    (laid_is_forest (changes_of_entries c.changes.inside.entries.entries) (forest_of_layers c.in_ok-layers.layers.items) c.changes.invariant
    (subst IsForest (sym (layers-copy c.self.inside.layers.items c.in_ok-layers.layers.items c.in_ok-layers.ensures.cases.0)) c.self.invariant))

pub returns : goal.returns
returns c =
    c.in_ok-add_some.ensures
    ∙ (λ i. laid_over (c.changes.view_is i).changes
    ((layers-copy c.self.inside.layers.items c.in_ok-layers.layers.items c.in_ok-layers.ensures.cases.0 ∙ c.self.view_is) i))
