use Rattle.std.proofs.Common.{◌≡◌, ℕ, List, false, None, IsTrue, refl, sym, ap, subst, ◌∙◌}
use Rattle.std.specs.Prelude.{Err}
use Rattle.std.specs.FinMap as map
use Rattle.xq_ast.specs.GoodNames.{has_good_names}
use Rattle.tree_edit.specs.declared.end.EditEnd.{EditEnd}
use Rattle.xml_model.specs.Edits.{updated}
use Rattle.session_run.specs.Updates.{RemakesAll}
use Rattle.xq_ast.specs.declared.call.Call.TheVariants.{Update}
use Rattle.xml_model.specs.Changes.{laid_over}
use Rattle.xml_model.specs.Needs.{needs, AgreeAt, has_need}
use Rattle.session_run.specs.Effects.{IsEffect}
use Rattle.session_run.specs.declared.statement.Effect.{Effect}
use Rattle.session_core.specs.declared.history.event.Says.TheVariants as says
use Rattle.session_run.proofs.Updates.{update_done, update_refused}
use Rattle.session_run.proofs.update.update.Goals as goal

pub changes_of-requires : goal.changes_of-requires
changes_of-requires c = record { named = subst (λ call. IsTrue (has_good_names call)) c.requires.call c.requires.named }

pub returns-in-Ok-clause-effect : goal.returns-in-Ok-clause-effect
returns-in-Ok-clause-effect c =
    let changes = c.args.changes.now.changes in
    let F = c.args.base.now in
    let D = c.in_ok-docs.docs in
    let what = c.args.what.now in
    let effect : Effect = record { says = says.Done; changes = c.in-Ok.changes } in
    let asked = c.in_ok-needed.ensures ∙ ap needs c.requires.call in
    let agree : AgreeAt (needs (Update what)) D (laid_over changes F) = subst (λ ns. AgreeAt ns D (laid_over changes F)) asked c.in_ok-docs.ensures.named in
    let others : (name : List ℕ) → has_need name (needs (Update what)) ≡ false → map.get D name ≡ None =
    subst (λ ns. (name : List ℕ) → has_need name ns ≡ false → map.get D name ≡ None) asked c.in_ok-docs.ensures.others in
    subst (λ call. IsEffect call changes F effect) (sym c.requires.call)
    (update_done what changes F D agree others c.in-Ok.changes c.in-Ok.ensures.changes.1 c.in-Ok.ensures.changes.0 effect refl refl)

pub returns-in-Err-Code-clause-effect : goal.returns-in-Err-Code-clause-effect
returns-in-Err-Code-clause-effect c =
    let changes = c.args.changes.now.changes in
    let F = c.args.base.now in
    let D = c.in_ok-docs.docs in
    let what = c.args.what.now in
    let asked = c.in_ok-needed.ensures ∙ ap needs c.requires.call in
    let agree : AgreeAt (needs (Update what)) D (laid_over changes F) = subst (λ ns. AgreeAt ns D (laid_over changes F)) asked c.in_ok-docs.ensures.named in
    let others : (name : List ℕ) → has_need name (needs (Update what)) ≡ false → map.get D name ≡ None =
    subst (λ ns. (name : List ℕ) → has_need name ns ≡ false → map.get D name ≡ None) asked c.in_ok-docs.ensures.others in
    let refused : updated D what ≡ Err c.in-Err-Code.code =
    subst (λ (end : EditEnd). RemakesAll D (Err end) (updated D what)) c.in-Err-Code.field-0-is c.in-Err-Code.ensures.changes in
    subst (λ call. IsEffect call changes F c.unchanged.result) (sym c.requires.call)
    (update_refused what changes F D agree others c.in-Err-Code.code c.unchanged.result refused c.unchanged.ensures.says c.unchanged.ensures.changes)
