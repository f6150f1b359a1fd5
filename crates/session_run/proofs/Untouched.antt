-- A call leaves the other sessions where they were.
use Rattle.std.proofs.Common.{◌≡◌, ℕ, true, true≢false, List, [], ◌∷◌, None, Result, Ok, Err, OnOk, OnErr, refl, sym, ap, subst, ◌∙◌, append_assoc}
use mathlib.Core.Logic.{inl, inr}
use Rattle.xq_ast.specs.declared.call.CallText.{CallText}
use Rattle.session_core.specs.declared.history.event.Event.{Event}
use Rattle.session_core.specs.declared.history.event.Event.TheVariants.{Began, Granted, Refused, Answered, Committed, Ended, RolledBack, Doubt, Settled, Left}
use Rattle.session_core.specs.History.{AtEach, session_of, is_closing, last_of}
use Rattle.session_core.specs.History.Transactions.{Base, open_of}
use Rattle.session_core.specs.History.Locks.{LocksAt}
use Rattle.session_core.specs.History.Refusals.{RefusalsAt}
use Rattle.session_core.specs.History.Legal.{SoFar}
use Rattle.session_core.specs.Keeping.Kept.{Kept, with_event, past}
use Rattle.session_core.proofs.Growing.{past-more}
use Rattle.session_core.proofs.Beside.{whose, open-beside, last-beside}
use Rattle.session_run.specs.Calls as calls
use Rattle.session_run.specs.Calls.{ClosesText, AreOfCall}
use Rattle.session_run.specs.Called.{with_events, IsCalled, IsUnclosed, IsUntouched}
use Rattle.session_core.specs.History.States.{in_doubt}
use Rattle.xml_model.specs.Changes.{ChangeMap}
use Rattle.session_run.specs.Tied.{IsTied, EndsCall, IsReady}
use Rattle.session_run.proofs.Tying.{tied_beside}

-- an event that closes a call is of the transaction of the session that added it
closing_whose : (e : Event) → is_closing e ≡ true → whose e ≡ session_of e
closing_whose (Began t kind) is = refl
closing_whose (Granted t asked) is = refl
closing_whose (Refused t name by asked) is = refl
closing_whose (Answered t r) is = refl
closing_whose (Committed t n) is = refl
closing_whose (Ended t) is = refl
closing_whose (RolledBack t) is = refl
closing_whose (Doubt t n mark) is = refl
closing_whose (Settled by t stands) is = absurd (true≢false (sym is))
closing_whose (Left t) is = refl

-- a journal that stayed as it was has touched no session
pub untouched_same : (t : ℕ) (old new : Kept) → new ≡ old → IsUntouched t old new
untouched_same t old new same = subst (IsUntouched t old) (sym same) (record { open_is = refl; last_is = refl; tied = λ changes tied. tied })

untouched_then : (t : ℕ) (old mid new : Kept) → IsUntouched t old mid → IsUntouched t mid new → IsUntouched t old new
untouched_then t old mid new first second = record {
  open_is = second.open_is ∙ first.open_is;
  last_is = second.last_is ∙ first.last_is;
  tied = λ changes tied. second.tied changes (first.tied changes tied);
}

-- the locks and the refusals before an event are legal where they are after it
record IsLegalBefore (k : Kept) : Type 0 where
  pub locks : AtEach LocksAt (past k)
  pub refusals : AtEach RefusalsAt (past k)

before_event : (k : Kept) (e : Event) → IsLegalBefore (with_event e k) → IsLegalBefore k
before_event k e legal = record {
  locks = (subst (AtEach LocksAt) (past-more k.journal e) legal.locks).1;
  refusals = (subst (AtEach RefusalsAt) (past-more k.journal e) legal.refusals).1;
}

untouched_event : (t : ℕ) (k : Kept) (e : Event) → (whose e ≡ t → ⊥) → (session_of e ≡ t → ⊥) → IsLegalBefore k → IsUntouched t k (with_event e k)
untouched_event t k e other apart legal = let more = past-more k.journal e in record {
  open_is = ap (open_of t) more ∙ open-beside t e (past k) other;
  last_is = ap (last_of t) more ∙ last-beside t e (past k) apart;
  tied = λ changes tied. subst (IsTied k.base t changes) (sym more) (tied_beside k.base (past k) legal.locks legal.refusals t changes e other tied);
}

untouched_closing : (B : Base) (t s : ℕ) (text : CallText) (k : Kept) (e : Event) (before : List Event) → (t ≡ s → ⊥) → ClosesText B s text e before
    → IsLegalBefore (with_event e k) → IsUntouched t k (with_event e k)
untouched_closing B t s text k e before differ closes legal = untouched_event t k e
    (λ same. differ (sym same ∙ closing_whose e closes.closing ∙ closes.of_session)) (λ same. differ (sym same ∙ closes.of_session)) (before_event k e legal)

untouched_grant : (t s : ℕ) (k : Kept) (e : Event) → (t ≡ s → ⊥) → session_of e ≡ s → whose e ≡ s → IsLegalBefore (with_event e k)
    → IsUntouched t k (with_event e k)
untouched_grant t s k e differ own its legal =
    untouched_event t k e (λ same. differ (sym same ∙ its)) (λ same. differ (sym same ∙ own)) (before_event k e legal)

by_events : (t s : ℕ) (text : CallText) (old : Kept) (events : List Event) → (t ≡ s → ⊥) → AreOfCall old.base s text (past old) events
    → IsLegalBefore (with_events events old) → IsUntouched t old (with_events events old)
by_events t s text old events differ (calls.AreOfCall.at_once {e} closes) legal = untouched_closing old.base t s text old e (past old) differ closes legal
by_events t s text old events differ (calls.AreOfCall.behind_grant {asked} {e} some needed closes) legal =
    let mid : Kept = with_event (Granted s asked) old in
    let flat : with_event e mid ≡ with_events (Granted s asked ∷ e ∷ []) old =
    λ i. record { base = old.base; journal = append_assoc old.journal (Granted s asked ∷ []) (e ∷ []) i } in
    let legal_flat : IsLegalBefore (with_event e mid) = subst IsLegalBefore (sym flat) legal in
    subst (IsUntouched t old) flat (untouched_then t old mid (with_event e mid)
    (untouched_grant t s old (Granted s asked) differ refl refl (before_event mid e legal_flat))
    (untouched_closing old.base t s text mid e (Granted s asked ∷ past old) differ closes legal_flat))

module _ (t s : ℕ) (text : CallText) (old new : Kept) (differ : t ≡ s → ⊥) (legal : SoFar new.base new.journal) where
  legal_new : IsLegalBefore new
  legal_new = record { locks = legal.locks; refusals = legal.refusals }

  -- a call that is closed
  untouched_called : IsCalled s text old new → IsUntouched t old new
  untouched_called called =
      subst (IsUntouched t old) (sym called.grown) (by_events t s text old called.events differ called.of_call (subst IsLegalBefore called.grown legal_new))

  -- and one that is not
  untouched_unclosed : IsUnclosed s text old new → IsUntouched t old new
  untouched_unclosed (inl same) = untouched_same t old new same
  untouched_unclosed (inr alone) =
      subst (IsUntouched t old) (sym alone.grown) (untouched_grant t s old (Granted s alone.asked) differ refl refl (subst IsLegalBefore alone.grown legal_new))

  -- a call, closed or not, leaves each other session untouched
  pub untouched : {T E : Type 0} (r : Result T E) → OnOk r (IsCalled s text old new) → OnErr r (IsUnclosed s text old new) → IsUntouched t old new
  untouched (Ok x) called unclosed = untouched_called called
  untouched (Err e) called unclosed = untouched_unclosed unclosed

  -- a session that leaves
  pub untouched_left : new ≡ with_event (Left s) old → IsUntouched t old new
  untouched_left grown = subst (IsUntouched t old) (sym grown) (untouched_grant t s old (Left s) differ refl refl (subst IsLegalBefore grown legal_new))

-- another session may make its next call still
pub ready_beside : (t : ℕ) (changes : ChangeMap) (old new : Kept) → IsReady t changes old → IsUntouched t old new → in_doubt (past new) ≡ None
    → IsReady t changes new
ready_beside t changes old new ready same settled =
    record { tied = same.tied changes ready.tied; between = subst EndsCall (sym same.last_is) ready.between; settled = settled }
