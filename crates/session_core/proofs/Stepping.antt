-- What a core keeps, behind each kind of event.
use Rattle.std.proofs.Common.{◌≡◌, ℕ, ◌+◌, ◌<◌, ◌==◌, true, false, true≢false, List, [], ◌∷◌, ◌++◌, length, Option, None, Some, IsTrue, refl, sym, ap, subst, ◌∙◌, length-append}
use Rattle.std.specs.Prelude.{if◌then◌else◌}
use Rattle.std.specs.FinMap as fin
use Rattle.xq_ast.specs.declared.code.Mark.{Mark}
use Rattle.xq_ast.specs.declared.need.Need.{Need}
use Rattle.xml_model.specs.Forest.{Forest}
use Rattle.doc_locks.specs.Names.{Locks}
use Rattle.doc_locks.specs.Locks.{granted}
use Rattle.session_core.specs.declared.history.event.BeginKind.{BeginKind}
use Rattle.session_core.specs.declared.history.event.BeginKind.TheVariants as kinds
use Rattle.session_core.specs.declared.history.event.State.TheVariants.{Idle, Updating, InDoubt}
use Rattle.session_core.specs.declared.history.event.Event.{Event}
use Rattle.session_core.specs.declared.history.event.Event.TheVariants.{Began, Granted, Refused, Committed, Ended, RolledBack, Doubt, Settled, Left}
use Rattle.session_core.specs.History.Transactions.{Base, Transaction, open_of, updating, begun, with_locks, with_doubt, commits, committed_by, commit_count, ran_all, run_calls, serial, newest}
use Rattle.session_core.specs.History.States.{state_in, state_with, state, is_open, held_with, held_in, in_doubt}
use Rattle.session_core.specs.History.Settling.{last_number}
use Rattle.session_core.specs.Keeping.Table.{States, entry_of}
use Rattle.session_core.specs.Keeping.Kept.{forest_behind}
use Rattle.session_core.specs.Keeping.Ties.{forests_of, IsDoubt, DoubtIs, Ties}
use Rattle.session_core.proofs.Growing.{newest-more}
use Rattle.session_core.proofs.Tying.{elsewhere, here, states_set, states_gone, states_same, state-with_locks, idle_none, opened, updating_is, locks_same, locks_gone, locks_granted, commits_same, forests_of-more, newest_is}

-- ---- the commit in doubt

-- an event that commits nothing leaves the newest forest
newest_same : (B : Base) (e : Event) (past : List Event) → committed_by e past ≡ [] → newest B (e ∷ past) ≡ newest B past
newest_same B e past none = newest-more B e past ∙ ap (serial (newest B past)) none

-- an event that commits nothing leaves the number of commits as it is
pub count_same : (e : Event) (past : List Event) → committed_by e past ≡ [] → commit_count (e ∷ past) ≡ commit_count past
count_same e past none = ap length (commits_same e past none)

in_doubt_of : (o : Option Transaction) (u : Transaction) → o ≡ Some u → u.in_doubt ≡ true → state_with o ≡ InDoubt
in_doubt_of o u is marked = ap state_with is ∙ ap (λ b. if b then InDoubt else state_in u.kind) marked

-- an event of a session that isn't in doubt, which commits and settles nothing
doubt_stays : (B : Base) (e : Event) (past : List Event) (t : ℕ) (d : Option (ℕ × Forest)) → DoubtIs B past d → (state t past ≡ InDoubt → ⊥)
    → ((s : ℕ) → (t ≡ s → ⊥) → open_of s (e ∷ past) ≡ open_of s past) → committed_by e past ≡ [] → in_doubt (e ∷ past) ≡ in_doubt past → DoubtIs B (e ∷ past) d
doubt_stays B e past t None is sound frame none same = same ∙ is
doubt_stays B e past t (Some d) is sound frame none same = record {
  in_doubt_is = same ∙ is.in_doubt_is;
  transaction = is.transaction;
  open_is = frame d.0 (λ it. sound (ap (λ z. state z past) it ∙ in_doubt_of (open_of d.0 past) is.transaction is.open_is is.marked)) ∙ is.open_is;
  kind_is = is.kind_is;
  marked = is.marked;
  forest_is = is.forest_is ∙ ap (λ F. run_calls F (ran_all is.transaction.replies)) (sym (newest_same B e past none));
  left = let count = count_same e past none in let before = is.left in subst (λ n. B.numbers.commit + n < last_number) (sym count) before;
}

idle_sound : (t : ℕ) (past : List Event) → state t past ≡ Idle → state t past ≡ InDoubt → ⊥
idle_sound t past is doubt = let e : Idle ≡ InDoubt = sym is ∙ doubt in cc

updating_sound : (t : ℕ) (past : List Event) → state t past ≡ Updating → state t past ≡ InDoubt → ⊥
updating_sound t past is doubt = let e : Updating ≡ InDoubt = sym is ∙ doubt in cc

open_sound : (t : ℕ) (past : List Event) → IsTrue (is_open (state t past)) → state t past ≡ InDoubt → ⊥
open_sound t past is doubt = true≢false (sym is ∙ ap is_open doubt)

-- an event that commits nothing leaves the forests of a journal as they are
pub forests_same : (B : Base) (e : Event) (past : List Event) (forests : List Forest) → forests ≡ forests_of B.forest (commits past) → committed_by e past ≡ []
    → forests ≡ forests_of B.forest (commits (e ∷ past))
forests_same B e past forests is none = is ∙ ap (forests_of B.forest) (sym (commits_same e past none))

-- ---- one event more

module _ (B : Base) (past : List Event) (states : States) (locks : Locks) (forests : List Forest) (doubt : Option (ℕ × Forest))
    (ties : Ties B past states locks forests doubt) where
  state-begun : (kind : BeginKind) → entry_of (state_with (Some (begun kind))) ≡ Some (state_in kind)
  state-begun kinds.Updating = refl
  state-begun (kinds.Reading n) = refl

  held-begun : (kind : BeginKind) (name : List ℕ) → held_with name (Some (begun kind)) ≡ None
  held-begun kinds.Updating name = refl
  held-begun (kinds.Reading n) name = refl

  -- where an idle session begins a transaction, the table has its state, and all else is as it was
  pub ties_began : (t : ℕ) (kind : BeginKind) → state t past ≡ Idle → Ties B (Began t kind ∷ past) (fin.insert states t (state_in kind)) locks forests doubt
  ties_began t kind idle = record {
    states_are = states_set past states t (state_in kind) (λ o. Some (begun kind)) ties.states_are (state-begun kind);
    locks_are = locks_same past locks t (λ o. Some (begun kind)) ties.locks_are (λ name. held-begun kind name
        ∙ ap (held_with name) (sym (idle_none (open_of t past) idle)));
    forests_are = forests_same B (Began t kind) past forests ties.forests_are refl;
    doubt_is = doubt_stays B (Began t kind) past t doubt ties.doubt_is (idle_sound t past idle)
        (λ s other. elsewhere t s (open_of s past) (Some (begun kind)) other) refl refl;
  }

  -- where locks are granted to an updating transaction, they come to its session's, and all else is as it was
  pub ties_granted : (t : ℕ) (asked : List Need) → state t past ≡ Updating → Ties B (Granted t asked ∷ past) states (granted locks t asked) forests doubt
  ties_granted t asked updating = record {
    states_are = states_same past states t (with_locks asked) ties.states_are (state-with_locks asked);
    locks_are = locks_granted past locks t asked ties.locks_are updating;
    forests_are = forests_same B (Granted t asked) past forests ties.forests_are refl;
    doubt_is = doubt_stays B (Granted t asked) past t doubt ties.doubt_is (updating_sound t past updating)
        (λ s other. elsewhere t s (open_of s past) (with_locks asked (open_of s past)) other) refl refl;
  }

  -- where locks are refused to an updating transaction, all that is held is as it was
  pub ties_refused : (t : ℕ) (name : List ℕ) (holder : ℕ) (asked : List Need) → state t past ≡ Updating
      → Ties B (Refused t name holder asked ∷ past) states locks forests doubt
  ties_refused t name holder asked updating = record {
    states_are = ties.states_are;
    locks_are = ties.locks_are;
    forests_are = forests_same B (Refused t name holder asked) past forests ties.forests_are refl;
    doubt_is = doubt_stays B (Refused t name holder asked) past t doubt ties.doubt_is (updating_sound t past updating) (λ s other. refl) refl refl;
  }

  -- an event that ends the session's transaction, and commits and settles nothing
  ties_gone : (e : Event) (t : ℕ) → ((s : ℕ) → open_of s (e ∷ past) ≡ (if t == s then None else open_of s past)) → committed_by e past ≡ []
      → in_doubt (e ∷ past) ≡ in_doubt past
      → IsTrue (is_open (state t past)) → Ties B (e ∷ past) (fin.remove states t) (fin.remove locks t) forests doubt
  ties_gone e t ends none same is = record {
    states_are = λ s. states_gone past states t ties.states_are s ∙ ap (λ o. entry_of (state_with o)) (sym (ends s));
    locks_are = λ s name. locks_gone past locks t ties.locks_are s name ∙ ap (held_with name) (sym (ends s));
    forests_are = forests_same B e past forests ties.forests_are none;
    doubt_is = doubt_stays B e past t doubt ties.doubt_is (open_sound t past is) (λ s other. ends s ∙ elsewhere t s (open_of s past) None other) none same;
  }

  -- where an open transaction ends, its session goes out of the table and of the locks
  pub ties_ended : (t : ℕ) → IsTrue (is_open (state t past)) → Ties B (Ended t ∷ past) (fin.remove states t) (fin.remove locks t) forests doubt
  ties_ended t is = ties_gone (Ended t) t (λ s. refl) refl refl is

  -- where an open transaction is rolled back, its session goes out of the table and of the locks
  pub ties_rolled_back : (t : ℕ) → IsTrue (is_open (state t past)) → Ties B (RolledBack t ∷ past) (fin.remove states t) (fin.remove locks t) forests doubt
  ties_rolled_back t is = ties_gone (RolledBack t) t (λ s. refl) refl refl is

  -- where a session with an open transaction leaves, it goes out of the table and of the locks
  pub ties_left : (t : ℕ) → IsTrue (is_open (state t past)) → Ties B (Left t ∷ past) (fin.remove states t) (fin.remove locks t) forests doubt
  ties_left t is = ties_gone (Left t) t (λ s. refl) refl refl is

  -- the forest behind an updating transaction
  pub forest_behind-is : (t : ℕ) (u : Transaction) → open_of t past ≡ Some u → u.kind ≡ kinds.Updating
      → forest_behind B t past ≡ run_calls (newest B past) (ran_all u.replies)
  forest_behind-is t u is kind_is = ap (serial (newest B past)) (updating_is (open_of t past) u is kind_is)

  commits_one : (e : Event) (t : ℕ) (u : Transaction) → committed_by e past ≡ updating (open_of t past) → open_of t past ≡ Some u → u.kind ≡ kinds.Updating
      → commits (e ∷ past) ≡ commits past ++ u ∷ []
  commits_one e t u by is kind_is = ap (λ l. commits past ++ l) (by ∙ updating_is (open_of t past) u is kind_is)

  -- an event that commits an open updating transaction adds one commit
  pub count_one : (e : Event) (t : ℕ) (u : Transaction) → committed_by e past ≡ updating (open_of t past) → open_of t past ≡ Some u → u.kind ≡ kinds.Updating
      → commit_count (e ∷ past) ≡ commit_count past + 1
  count_one e t u by is kind_is = ap length (commits_one e t u by is kind_is) ∙ length-append (commits past) (u ∷ [])

  -- the forest behind a commit is kept
  forests_more : (e : Event) (t : ℕ) (u : Transaction) (F : Forest) → committed_by e past ≡ updating (open_of t past) → open_of t past ≡ Some u
      → u.kind ≡ kinds.Updating
      → F ≡ run_calls (newest B past) (ran_all u.replies) → forests ++ F ∷ [] ≡ forests_of B.forest (commits (e ∷ past))
  forests_more e t u F by is kind_is is_behind =
      ap (λ (l : List Forest). l ++ F ∷ []) ties.forests_are
      ∙ ap (λ (G : Forest). forests_of B.forest (commits past) ++ G ∷ []) (is_behind ∙ ap (λ G. run_calls G (ran_all u.replies)) (newest_is B past))
      ∙ sym (forests_of-more B.forest (commits past) u) ∙ ap (forests_of B.forest) (sym (commits_one e t u by is kind_is))

  -- where an updating transaction commits, its session goes out of the table and of the locks,
  -- and the forest after it comes to the others, if nothing is in doubt
  pub ties_committed : (t n : ℕ) (F : Forest) → state t past ≡ Updating → in_doubt past ≡ None → doubt ≡ None → F ≡ forest_behind B t past
      → Ties B (Committed t n ∷ past) (fin.remove states t) (fin.remove locks t) (forests ++ F ∷ []) None
  ties_committed t n F updating settled none is =
      let o = opened (open_of t past) updating in record {
        states_are = states_gone past states t ties.states_are;
        locks_are = locks_gone past locks t ties.locks_are;
        forests_are = forests_more (Committed t n) t o.transaction F refl o.is o.kind_is (is ∙ forest_behind-is t o.transaction o.is o.kind_is);
        doubt_is = settled;
      }

  state-doubted : (o : Option Transaction) (u : Transaction) → o ≡ Some u → entry_of (state_with (with_doubt o)) ≡ Some InDoubt
  state-doubted o u is = ap (λ z. entry_of (state_with (with_doubt z))) is

  held-doubted_by : (name : List ℕ) (u : Transaction) (kind : BeginKind) → held_in name (record u { in_doubt = true }) kind ≡ held_in name u kind
  held-doubted_by name u kinds.Updating = refl
  held-doubted_by name u (kinds.Reading n) = refl

  held-doubted : (name : List ℕ) (o : Option Transaction) → held_with name (with_doubt o) ≡ held_with name o
  held-doubted name None = refl
  held-doubted name (Some u) = held-doubted_by name u u.kind

  -- where the commit of an updating transaction comes into doubt, the table says so,
  -- and the forest after it is kept as the one in doubt, if a number is left
  pub ties_doubted : (t n : ℕ) (mark : Mark) (F : Forest) → state t past ≡ Updating → B.numbers.commit + commit_count past < last_number
      → F ≡ forest_behind B t past
      → Ties B (Doubt t n mark ∷ past) (fin.insert states t InDoubt) locks forests (Some (t, F))
  ties_doubted t n mark F updating left is =
      let o = opened (open_of t past) updating in record {
        states_are = states_set past states t InDoubt with_doubt ties.states_are (state-doubted (open_of t past) o.transaction o.is);
        locks_are = locks_same past locks t with_doubt ties.locks_are (λ name. held-doubted name (open_of t past));
        forests_are = forests_same B (Doubt t n mark) past forests ties.forests_are refl;
        doubt_is = record {
          in_doubt_is = refl;
          transaction = record o.transaction { in_doubt = true };
          open_is = here t (open_of t past) (with_doubt (open_of t past)) ∙ ap with_doubt o.is;
          kind_is = o.kind_is;
          marked = refl;
          forest_is = is ∙ forest_behind-is t o.transaction o.is o.kind_is
              ∙ ap (λ G. run_calls G (ran_all o.transaction.replies)) (sym (newest_same B (Doubt t n mark) past refl));
          left = subst (λ k. B.numbers.commit + k < last_number) (sym (count_same (Doubt t n mark) past refl)) left;
        };
      }

  -- where a commit is settled with yes, its session goes, its forest comes to the others, and nothing is in doubt
  pub ties_settled_yes : (by s : ℕ) (F : Forest) → IsDoubt B past s F
      → Ties B (Settled by s true ∷ past) (fin.remove states s) (fin.remove locks s) (forests ++ F ∷ []) None
  ties_settled_yes by s F is = record {
    states_are = states_gone past states s ties.states_are;
    locks_are = locks_gone past locks s ties.locks_are;
    forests_are = forests_more (Settled by s true) s is.transaction F refl is.open_is is.kind_is is.forest_is;
    doubt_is = refl;
  }

  -- where a commit is settled with no, its session goes, the forests are as they were, and nothing is in doubt
  pub ties_settled_no : (by s : ℕ) (F : Forest) → IsDoubt B past s F
      → Ties B (Settled by s false ∷ past) (fin.remove states s) (fin.remove locks s) forests None
  ties_settled_no by s F is = record {
    states_are = states_gone past states s ties.states_are;
    locks_are = locks_gone past locks s ties.locks_are;
    forests_are = forests_same B (Settled by s false) past forests ties.forests_are refl;
    doubt_is = refl;
  }
