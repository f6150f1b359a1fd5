use Rattle.std.proofs.Common.{ap, subst, ◌∙◌}
use Rattle.indexmap.proofs.MapLemmas.{OnOk-map}
use Rattle.xml_model.specs.Changes.{laid_over, changes_of_entries, forest_of_layers}
use Rattle.xml_model.specs.Below.{IsBelow}
use Rattle.xml_model.proofs.Laying.{laid-no-entries, layers-push}
use Rattle.xml_model.proofs.layers.add.Goals as goal

pub returns : goal.returns
returns c =
    OnOk-map c.settle.result _ _ (λ same. same
    ∙ ap forest_of_layers c.in_ok-push.ensures.items
    ∙ layers-push c.args.layers.now.items c.in_ok-new.field-0
    ∙ ap (λ table. laid_over (changes_of_entries table.entries) (forest_of_layers c.args.layers.now.items)) c.in_ok-new.ensures.ok
    ∙ c.in_ok-layer.ensures (forest_of_layers c.args.layers.now.items)
    (subst (λ layers. IsBelow c.below_of.result (forest_of_layers layers)) c.deref.ensures.value c.below_of.ensures)
    ∙ ap (laid_over (changes_of_entries c.args.changes.now.entries))
    (laid-no-entries c.new-none.result.entries c.new-none.ensures.len (forest_of_layers c.args.layers.now.items)))
    c.settle.ensures
