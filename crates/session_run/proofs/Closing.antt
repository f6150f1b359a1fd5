-- What one event of a session leaves, where it closes a call.
use Rattle.std.proofs.Common.{◌≡◌, ℕ, List, [], ◌∷◌, Option, None, Some, Result, Ok, Err, OnOk, refl, sym, ap, subst, ◌∙◌}
use Rattle.std.specs.Prelude.{if◌then◌else◌}
use mathlib.Core.Logic.{inl}
use Rattle.std.proofs.lemmas.Bool.{eq-eqb}
use Rattle.xq_ast.specs.declared.call.Call.{Call}
use Rattle.xml_model.specs.Needs.{needs}
use Rattle.session_core.specs.declared.history.event.Says.{Says}
use Rattle.session_core.specs.declared.history.event.Event.{Event}
use Rattle.session_core.specs.declared.history.event.Event.TheVariants.{Began, Granted, Refused, Answered, Committed, Ended, RolledBack, Doubt, Settled, Left}
use Rattle.session_core.specs.History.{session_of, last_of}
use Rattle.session_run.specs.Calls.{IsAnswerInMemory}
use Rattle.session_core.specs.History.Transactions.{ran_by}
use Rattle.session_core.specs.History.States.{in_doubt, doubt_behind}
use Rattle.session_core.specs.History.Locks.{IsBehindGrant}
use Rattle.session_core.specs.History.Settling.{IsBehindSettled}
use Rattle.session_core.specs.Keeping.Kept.{Kept, with_event, past, Follows}
use Rattle.session_core.proofs.Growing.{past-more}
use Rattle.session_run.specs.Answers.{answered}
use Rattle.session_run.specs.Called.{AddsClosing}
use Rattle.xml_model.specs.Changes.{ChangeMap}
use Rattle.session_run.specs.Tied.{IsTied, EndsCall, IsBetweenCalls, IsReady, StaysReady}
use Rattle.session_run.proofs.Tying.{tied_unrun}

-- what follows from P holds of each Ok answer, where P does
pub on_ok : {T E P Q : Type 0} (r : Result T E) → (P → Q) → OnOk r P → OnOk r Q
on_ok (Ok x) f fact = f fact
on_ok (Err e) f fact = tt

-- ---- what may follow

ends_before_grant : (last : Option Event) (e : Event) → EndsCall last → IsBehindGrant last e
ends_before_grant None e ends = tt
ends_before_grant (Some (Began t kind)) e ends = tt
ends_before_grant (Some (Granted t given)) e ends = absurd ends
ends_before_grant (Some (Refused t name by given)) e ends = tt
ends_before_grant (Some (Answered t r)) e ends = tt
ends_before_grant (Some (Committed t n)) e ends = tt
ends_before_grant (Some (Ended t)) e ends = tt
ends_before_grant (Some (RolledBack t)) e ends = tt
ends_before_grant (Some (Doubt t n mark)) e ends = tt
ends_before_grant (Some (Settled by t stands)) e ends = absurd ends
ends_before_grant (Some (Left t)) e ends = tt

ends_before_settled : (last : Option Event) (e : Event) (before : List Event) → EndsCall last → IsBehindSettled last e before
ends_before_settled None e before ends = tt
ends_before_settled (Some (Began t kind)) e before ends = tt
ends_before_settled (Some (Granted t given)) e before ends = absurd ends
ends_before_settled (Some (Refused t name by given)) e before ends = tt
ends_before_settled (Some (Answered t r)) e before ends = tt
ends_before_settled (Some (Committed t n)) e before ends = tt
ends_before_settled (Some (Ended t)) e before ends = tt
ends_before_settled (Some (RolledBack t)) e before ends = tt
ends_before_settled (Some (Doubt t n mark)) e before ends = tt
ends_before_settled (Some (Settled by t stands)) e before ends = absurd ends
ends_before_settled (Some (Left t)) e before ends = tt

-- between calls any event may follow
pub follows_between : (e : Event) (before : List Event) → IsBetweenCalls (session_of e) before → Follows e before
follows_between e before ends = (ends_before_grant (last_of (session_of e) before) e ends, ends_before_settled (last_of (session_of e) before) e before ends)

-- after its grant a call may be answered
pub follows_grant : (s : ℕ) (call : Call) (says : Says) (before : List Event) → last_of s before ≡ Some (Granted s (needs call))
    → Follows (answered s (Some call) says) before
follows_grant s call says before is = (
  subst (λ last. IsBehindGrant last (answered s (Some call) says)) (sym is) refl,
  subst (λ last. IsBehindSettled last (answered s (Some call) says) before) (sym is) tt,
)

-- ---- a session that is ready

last_here : (s : ℕ) (e : Event) (before : List Event) → session_of e ≡ s → last_of s (e ∷ before) ≡ Some e
last_here s e before own = ap (λ b. if b then Some e else last_of s before) (eq-eqb (session_of e) s own)

ready_at : (s : ℕ) (changes : ChangeMap) (old : Kept) (e : Event) → session_of e ≡ s → EndsCall (Some e) → doubt_behind e (in_doubt (past old)) ≡ None
    → IsTied old.base s changes (e ∷ past old) → IsReady s changes (with_event e old)
ready_at s changes old e own ends settled tied = record {
  tied = subst (IsTied old.base s changes) (sym (past-more old.journal e)) tied;
  between = subst (IsBetweenCalls s) (sym (past-more old.journal e)) (subst EndsCall (sym (last_here s e (past old) own)) ends);
  settled = ap in_doubt (past-more old.journal e) ∙ settled;
}

-- after an event of its own that closes a call, and leaves nothing in doubt
pub ready_behind : (s : ℕ) (changes : ChangeMap) (old new : Kept) (e : Event) → new ≡ with_event e old → session_of e ≡ s → EndsCall (Some e)
    → doubt_behind e (in_doubt (past old)) ≡ None
    → IsTied old.base s changes (e ∷ past old) → IsReady s changes new
ready_behind s changes old new e grown own ends settled tied = subst (IsReady s changes) (sym grown) (ready_at s changes old e own ends settled tied)

-- after an answer to a call that did not run
pub ready_unrun : (s : ℕ) (call : Option Call) (says : Says) (old new : Kept) → new ≡ with_event (answered s call says) old → ran_by call says ≡ []
    → in_doubt (past old) ≡ None
    → (changes : ChangeMap) → IsTied old.base s changes (past old) → IsReady s changes new
ready_unrun s call says old new grown none settled changes tied =
    ready_behind s changes old new (answered s call says) grown refl tt settled
    (tied_unrun old.base s (past old) (record { call = call; says = says }) changes none tied)

-- an answer that is right for the call, added as one event, closes the call
pub answer_closes : (s : ℕ) (call : Call) (says : Says) (old new : Kept) → IsAnswerInMemory old.base s (past old) (Some call) says
    → new ≡ with_event (answered s (Some call) says) old → AddsClosing s call old new
answer_closes s call says old new right grown =
    record { event = answered s (Some call) says; of_session = refl; closing = refl; closes = inl refl; right = right; grown = grown }

-- what leaves a session ready with any tied changes does so with its own
pub stays : {T E : Type 0} (r : Result T E) (s : ℕ) (changes : ChangeMap) (mid old new : Kept) → mid ≡ old → IsTied old.base s changes (past old)
    → OnOk r (StaysReady s mid new) → OnOk r (IsReady s changes new)
stays r s changes mid old new same tied kept = on_ok r (λ f. f changes (subst (λ (k : Kept). IsTied k.base s changes (past k)) (sym same) tied)) kept
