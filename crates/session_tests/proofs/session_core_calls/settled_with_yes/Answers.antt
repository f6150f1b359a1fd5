use Rattle.std.proofs.Common.{◌≡◌, [], ◌∷◌, Some, true, refl, sym, ap, subst, ◌∙◌}
use Rattle.xq_ast.specs.declared.call.Call.TheVariants.{Create}
use Rattle.xml_model.specs.Needs.{needs}
use Rattle.session_core.specs.declared.history.event.Says.TheVariants as says
use Rattle.session_core.specs.declared.keeping.calls.CoreCall.TheVariants as calls
use Rattle.session_core.specs.Keeping.CoreCalls.{CanMake}
use Rattle.session_core.proofs.Worked.MadeHistories.{calls_of, nothing, yes_steps, yes_can}
use Rattle.session_tests.proofs.session_core_calls.settled_with_yes.Goals as goal

pub returns : goal.returns
returns c =
    let name = c.in_ok-d.ensures in
    let asked = c.in_ok-needs.ensures ∙ ap (λ n. needs (Create n)) name in
    let is : c.in_ok-vec.field-0.items ≡ calls_of yes_steps = c.in_ok-vec.ensures.items ∙ (λ i.
    calls.BeginUpdate 1
    ∷ calls.Ask 1 (asked i)
    ∷ calls.Post 1 (record { call = Some (Create (name i)); says = says.Done })
    ∷ calls.Doubt 1 (c.in_ok-first.ensures i) (record { before = 0; after = 1 })
    ∷ calls.BeginUpdate 2
    ∷ calls.Settled 2 true
    ∷ calls.Commit 2 (c.in_ok-second.ensures i)
    ∷ []) in
    subst (λ l. CanMake l nothing) (sym is) yes_can
