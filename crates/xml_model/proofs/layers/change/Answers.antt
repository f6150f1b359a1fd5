use Rattle.std.proofs.Common.{◌≡◌, ap, sym, subst, ◌∙◌}
use Rattle.indexmap.proofs.MapLemmas.{OnOk-map}
use Rattle.xml_model.specs.Forest.{no_documents}
use Rattle.xml_model.specs.Changes.{with_document, laid_over, unshared, changes_of_entries}
use Rattle.xml_model.specs.Below.{IsBelow}
use Rattle.xml_model.proofs.Entries.{entries-remove}
use Rattle.xml_model.proofs.Laying.{laid-one, laid-forgotten}
use Rattle.xml_model.proofs.layers.change.Goals as goal

pub returns-in-Nothing-None : goal.returns-in-Nothing-None
returns-in-Nothing-None c = λ F below.
    let none : F ≡ no_documents = subst (λ b. IsBelow b F) c.in-Nothing-None.is-0 below in
    ap (λ changes. laid_over changes F) (entries-remove c.args.all.now c.swap_remove.new.self c.args.name.now c.swap_remove.ensures.updates)
    ∙ laid-forgotten (changes_of_entries c.args.all.now.entries) c.args.name.now F none
    ∙ ap (λ o. with_document c.args.name.now (unshared o) (laid_over (changes_of_entries c.args.all.now.entries) F)) (sym c.in-Nothing-None.is-1)

pub returns-in_default : goal.returns-in_default
returns-in_default c =
    OnOk-map c.put.result _ _ (λ put F below. ap (λ changes. laid_over changes F) put
    ∙ laid-one (changes_of_entries c.args.all.now.entries) c.args.name.now (unshared c.args.after.now) F) c.put.ensures
