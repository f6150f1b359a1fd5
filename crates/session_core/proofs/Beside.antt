-- What an event leaves of another session: its transaction, its state and its last event, and the documents that its
-- locks name. And whose commit is in doubt.
use Rattle.std.proofs.Common.{◌≡◌, ℕ, ◌==◌, Bool, true, false, ◌||◌, true≢false, List, [], ◌∷◌, Option, None, Some, refl, sym, ap, subst, ◌∙◌}
use Rattle.std.specs.Prelude.{if◌then◌else◌}
use Rattle.std.specs.FinMap as forests
use Rattle.std.specs.Str.{bytes_eq}
use Rattle.std.proofs.lemmas.Bool.{eqb-true, eqb-false}
use Rattle.xq_ast.specs.declared.need.Need.{Need}
use Rattle.xml_model.specs.Forest.{Forest}
use Rattle.xml_model.specs.Needs.{has_exclusive, AgreeAt}
use Rattle.session_core.specs.declared.history.event.BeginKind.{BeginKind}
use Rattle.session_core.specs.declared.history.event.BeginKind.TheVariants as kinds
use Rattle.session_core.specs.declared.history.event.Reply.{Reply}
use Rattle.session_core.specs.declared.history.event.State.TheVariants.{InDoubt}
use Rattle.session_core.specs.declared.history.event.Event.{Event}
use Rattle.session_core.specs.declared.history.event.Event.TheVariants.{Began, Granted, Refused, Answered, Committed, Ended, RolledBack, Doubt, Settled, Left}
use Rattle.session_core.specs.History.{AtEach, session_of, last_of, past_of}
use Rattle.session_core.specs.History.Transactions.{Base, Transaction, open_of, begun, with_locks, with_reply, with_doubt, updating, where_updating, committed_by, ran_all, serial, newest}
use Rattle.session_core.specs.History.States.{state, state_with, in_doubt}
use Rattle.session_core.specs.History.Locks.{LocksAt}
use Rattle.session_core.specs.History.Refusals.{RefusalsAt}
use Rattle.session_core.specs.History.Settling.{SettlingAt}
use Rattle.session_core.specs.History.Legal.{SoFar}
use Rattle.session_core.proofs.Holding.{has_name, locks_by, locks_in, locks_of, all_apart, same_name}
use Rattle.session_core.proofs.Covering.{AreHeld, CoveredBy, CoveredIn, covered, held_if}
use Rattle.session_core.proofs.Turning.{Agree, AreApartLocks, agree_needs, stays_elsewhere}
use Rattle.session_core.proofs.Growing.{newest-more}
use Rattle.session_core.proofs.Tying.{elsewhere, state-with_locks}

-- the session whose transaction the event is of; that is the one that added it, but for a settling
abbrev pub whose : Event → ℕ
whose (Began s kind) = s
whose (Granted s needs) = s
whose (Refused s name holder needs) = s
whose (Answered s reply) = s
whose (Committed s n) = s
whose (Ended s) = s
whose (RolledBack s) = s
whose (Doubt s n mark) = s
whose (Settled by s stands) = s
whose (Left s) = s

-- ---- the transaction of a session beside an event of another's

-- an event of another's transaction leaves a session's open transaction as it is
pub open-beside : (s : ℕ) (e : Event) (past : List Event) → (whose e ≡ s → ⊥) → open_of s (e ∷ past) ≡ open_of s past
open-beside s (Began t kind) past other = elsewhere t s (open_of s past) (Some (begun kind)) other
open-beside s (Granted t more) past other = elsewhere t s (open_of s past) (with_locks more (open_of s past)) other
open-beside s (Refused t name holder more) past other = refl
open-beside s (Answered t r) past other = elsewhere t s (open_of s past) (with_reply r (open_of s past)) other
open-beside s (Committed t n) past other = elsewhere t s (open_of s past) None other
open-beside s (Ended t) past other = elsewhere t s (open_of s past) None other
open-beside s (RolledBack t) past other = elsewhere t s (open_of s past) None other
open-beside s (Doubt t n mark) past other = elsewhere t s (open_of s past) (with_doubt (open_of s past)) other
open-beside s (Settled by t stands) past other = elsewhere t s (open_of s past) None other
open-beside s (Left t) past other = elsewhere t s (open_of s past) None other

-- an event of another's transaction leaves a session's state as it is
pub state-beside : (s : ℕ) (e : Event) (past : List Event) → (whose e ≡ s → ⊥) → state s (e ∷ past) ≡ state s past
state-beside s e past other = ap state_with (open-beside s e past other)

-- an event of another's transaction leaves a session's locks as they are
pub locks-beside : (s : ℕ) (e : Event) (past : List Event) → (whose e ≡ s → ⊥) → locks_of s (e ∷ past) ≡ locks_of s past
locks-beside s e past other = ap locks_in (open-beside s e past other)

-- its last event stays beside what another session adds
pub last-beside : (s : ℕ) (e : Event) (past : List Event) → (session_of e ≡ s → ⊥) → last_of s (e ∷ past) ≡ last_of s past
last-beside s e past other = elsewhere (session_of e) s (last_of s past) (Some e) other

-- ---- forests that agree at the names of some locks

held_itself : (locks : List Need) → AreHeld locks locks
held_itself locks = held_if locks locks ((λ name is. is), (λ name is. is))

-- forests that agree at each name of the locks agree at the locks one by one
pub agree_at : (locks : List Need) (F G : Forest) → Agree locks F G → AgreeAt locks F G
agree_at locks F G agree = agree_needs locks locks F G (held_itself locks) agree

-- forests that agree at the locks one by one agree at each name of the locks
pub agree_of : (locks : List Need) (F G : Forest) → AgreeAt locks F G → Agree locks F G
agree_of [] F G agree name there = absurd (true≢false (sym there))
agree_of (n ∷ more) F G agree name there = by_place (agree_of more F G agree.1 name) (bytes_eq n.name name) refl there
  where
    by_place : (has_name name more ≡ true → forests.get F name ≡ forests.get G name) → (b : Bool) → bytes_eq n.name name ≡ b → (b || has_name name more) ≡ true
        → forests.get F name ≡ forests.get G name
    by_place behind true same is = subst (λ z. forests.get F z ≡ forests.get G z) (same_name n.name name same) agree.0
    by_place behind false differ is = behind is

-- ---- what another session commits

serial_agrees_by : (F : Forest) (t : Transaction) (kind : BeginKind) (locks : List Need) → CoveredBy t kind → AreApartLocks (locks_by t kind) locks
    → Agree locks F (serial F (where_updating t kind))
serial_agrees_by F t kinds.Updating locks covers apart = λ name there. sym (stays_elsewhere (ran_all t.replies) t.locks F covers name (apart name there))
serial_agrees_by F t (kinds.Reading n) locks covers apart = λ name there. refl

serial_agrees : (F : Forest) (o : Option Transaction) (locks : List Need) → CoveredIn o → AreApartLocks (locks_in o) locks
    → Agree locks F (serial F (updating o))
serial_agrees F None locks covers apart = λ name there. refl
serial_agrees F (Some t) locks covers apart = serial_agrees_by F t t.kind locks covers apart

-- in a journal whose locks are legal, what one session's locks have, another's do not have with X
pub apart_locks : (past : List Event) → AtEach LocksAt past → (t s : ℕ) → (t ≡ s → ⊥) → AreApartLocks (locks_of t past) (locks_of s past)
apart_locks past locks t s other name there = by_mode (has_exclusive name (locks_of t past)) refl
  where
    by_mode : (b : Bool) → has_exclusive name (locks_of t past) ≡ b → b ≡ false
    by_mode true is = absurd (true≢false (sym there ∙ all_apart past locks t s other name is))
    by_mode false is = refl

module _ (B : Base) (past : List Event) (locks : AtEach LocksAt past) (refusals : AtEach RefusalsAt past) (s : ℕ) where
  committed_agrees : (e : Event) (t : ℕ) → committed_by e past ≡ updating (open_of t past) → (t ≡ s → ⊥)
      → Agree (locks_of s past) (newest B past) (newest B (e ∷ past))
  committed_agrees e t by other = λ name there.
      serial_agrees (newest B past) (open_of t past) (locks_of s past) (covered past locks refusals t) (apart_locks past locks t s other) name there
      ∙ ap (λ F. forests.get F name) (ap (serial (newest B past)) (sym by) ∙ sym (newest-more B e past))

  same_agrees : (e : Event) → committed_by e past ≡ [] → Agree (locks_of s past) (newest B past) (newest B (e ∷ past))
  same_agrees e none = λ name there. ap (λ F. forests.get F name) (ap (serial (newest B past)) (sym none) ∙ sym (newest-more B e past))

  -- an event of another session's transaction leaves the newest documents at the names of a session's locks
  pub newest_agrees : (e : Event) → (whose e ≡ s → ⊥) → Agree (locks_of s past) (newest B past) (newest B (e ∷ past))
  newest_agrees (Committed t n) other = committed_agrees (Committed t n) t refl other
  newest_agrees (Settled by t true) other = committed_agrees (Settled by t true) t refl other
  newest_agrees (Settled by t false) other = same_agrees (Settled by t false) refl
  newest_agrees (Began t kind) other = same_agrees (Began t kind) refl
  newest_agrees (Granted t more) other = same_agrees (Granted t more) refl
  newest_agrees (Refused t name holder more) other = same_agrees (Refused t name holder more) refl
  newest_agrees (Answered t r) other = same_agrees (Answered t r) refl
  newest_agrees (Ended t) other = same_agrees (Ended t) refl
  newest_agrees (RolledBack t) other = same_agrees (RolledBack t) refl
  newest_agrees (Doubt t n mark) other = same_agrees (Doubt t n mark) refl
  newest_agrees (Left t) other = same_agrees (Left t) refl

-- so a forest with the newest documents at the names of an open updating transaction's locks had them before the event
pub agreed_before : (B : Base) (journal : List Event) → SoFar B journal → (s : ℕ) (t : Transaction) → open_of s (past_of journal) ≡ Some t
    → t.kind ≡ kinds.Updating → (e : Event) → (whose e ≡ s → ⊥)
    → (G : Forest) → AgreeAt t.locks (newest B (e ∷ past_of journal)) G → AgreeAt t.locks (newest B (past_of journal)) G
agreed_before B journal legal s t open_is kind_is e other G agree = agree_at t.locks (newest B (past_of journal)) G
    (λ name there. kept name there ∙ agree_of t.locks (newest B (e ∷ past_of journal)) G agree name there)
  where
    locks_are : locks_of s (past_of journal) ≡ t.locks
    locks_are = ap locks_in open_is ∙ ap (locks_by t) kind_is

    kept : Agree t.locks (newest B (past_of journal)) (newest B (e ∷ past_of journal))
    kept = subst (λ locks. Agree locks (newest B (past_of journal)) (newest B (e ∷ past_of journal))) locks_are
        (newest_agrees B (past_of journal) legal.locks legal.refusals s e other)

-- ---- whose commit is in doubt

abbrev IsInDoubt : Option Transaction → Type 0
IsInDoubt o = state_with o ≡ InDoubt

by_whose : {C : Type 0} (t s : ℕ) (old new : Option Transaction) → ((t ≡ s → ⊥) → IsInDoubt old → C) → (t ≡ s → IsInDoubt new → C)
    → IsInDoubt (if t == s then new else old) → C
by_whose {C} t s old new before behind = by_test (t == s) refl
  where
    by_test : (b : Bool) → (t == s) ≡ b → IsInDoubt (if b then new else old) → C
    by_test true same is = behind (eqb-true t s same) is
    by_test false differ is = before (eqb-false t s differ) is

begun_sound : (kind : BeginKind) → IsInDoubt (Some (begun kind)) → ⊥
begun_sound kinds.Updating is = cc
begun_sound (kinds.Reading n) is = cc

none_sound : IsInDoubt None → ⊥
none_sound is = cc

state-with_reply : (r : Reply) (o : Option Transaction) → state_with (with_reply r o) ≡ state_with o
state-with_reply r None = refl
state-with_reply r (Some t) = refl

some_same : (s t : ℕ) → ◌≡◌ {A = Option ℕ} (Some s) (Some t) → s ≡ t
some_same s t e = cc

none_or_some : (s : ℕ) (o : Option ℕ) → o ≡ None → o ≡ Some s → ⊥
none_or_some s o none some = let e : ◌≡◌ {A = Option ℕ} None (Some s) = sym none ∙ some in cc

-- a session in doubt is the one whose commit is in doubt
pub doubt_is_of : (B : Base) (past : List Event) → AtEach (SettlingAt B.numbers) past → (s : ℕ) → state s past ≡ InDoubt → in_doubt past ≡ Some s
doubt_is_of B [] settling s is = absurd (none_sound is)
doubt_is_of B (Began t kind ∷ past) settling s is =
    by_whose t s (open_of s past) _ (λ other. doubt_is_of B past settling.1 s) (λ same it. absurd (begun_sound kind it)) is
doubt_is_of B (Granted t more ∷ past) settling s is = by_whose t s (open_of s past) _ (λ other. doubt_is_of B past settling.1 s)
    (λ same it. doubt_is_of B past settling.1 s (sym (state-with_locks more (open_of s past)) ∙ it)) is
doubt_is_of B (Refused t name holder more ∷ past) settling s is = doubt_is_of B past settling.1 s is
doubt_is_of B (Answered t r ∷ past) settling s is = by_whose t s (open_of s past) _ (λ other. doubt_is_of B past settling.1 s)
    (λ same it. doubt_is_of B past settling.1 s (sym (state-with_reply r (open_of s past)) ∙ it)) is
doubt_is_of B (Committed t n ∷ past) settling s is =
    by_whose t s (open_of s past) None (λ other. doubt_is_of B past settling.1 s) (λ same it. absurd (none_sound it)) is
doubt_is_of B (Ended t ∷ past) settling s is =
    by_whose t s (open_of s past) None (λ other. doubt_is_of B past settling.1 s) (λ same it. absurd (none_sound it)) is
doubt_is_of B (RolledBack t ∷ past) settling s is =
    by_whose t s (open_of s past) None (λ other. doubt_is_of B past settling.1 s) (λ same it. absurd (none_sound it)) is
doubt_is_of B (Left t ∷ past) settling s is =
    by_whose t s (open_of s past) None (λ other. doubt_is_of B past settling.1 s) (λ same it. absurd (none_sound it)) is
doubt_is_of B (Doubt t n mark ∷ past) settling s is = by_whose t s (open_of s past) _
    (λ other it. absurd (none_or_some s (in_doubt past) settling.0.0.0 (doubt_is_of B past settling.1 s it))) (λ same it. ap (λ z. Some z) same) is
doubt_is_of B (Settled by t stands ∷ past) settling s is = by_whose t s (open_of s past) None
    (λ other it. absurd (other (some_same t s (sym (doubt_is_of B past settling.1 t settling.0.0.0) ∙ doubt_is_of B past settling.1 s it))))
    (λ same it. absurd (none_sound it)) is

-- where nothing is in doubt no session is
pub none_in_doubt : (B : Base) (past : List Event) → AtEach (SettlingAt B.numbers) past → in_doubt past ≡ None → (s : ℕ) → state s past ≡ InDoubt → ⊥
none_in_doubt B past settling none s is = none_or_some s (in_doubt past) none (doubt_is_of B past settling s is)
