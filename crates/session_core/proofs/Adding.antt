-- Each event of a `Core` meets its own clauses, and so the core's journal stays legal and all that it holds goes on.
use Rattle.std.proofs.Common.{◌≡◌, ℕ, zero, suc, ◌+◌, ◌-◌, ◌≤◌, ◌<◌, ◌==◌, Bool, true, false, true≢false, cond, List, [], ◌∷◌, ◌++◌, length, take, min, slice_get, Option, None, Some, is_some, nat_le, IsTrue, nat_le, refl, sym, ap, subst, ◌∙◌, arith, append-nil}
use Rattle.std.specs.Prelude.{if◌then◌else◌}
use mathlib.Core.Logic.{◌⊎◌, inl, inr}
use Rattle.std.proofs.lemmas.Bool.{eqb-true}
use Rattle.std.proofs.lemmas.Bool.Decides.{nat_tests}
use Rattle.std.proofs.lemmas.List.{take_all}
use Rattle.std.proofs.Math.Seq.{take-length}
use Rattle.std.specs.Ordering.{nat_cmp}
use Rattle.std.specs.Cmp.{nat_cmp_total}
use Rattle.std.specs.FinMap as fin
use Rattle.xq_ast.specs.declared.code.Mark.{Mark}
use Rattle.xq_ast.specs.declared.need.Need.{Need}
use Rattle.xml_model.specs.Forest.{Forest, IsForest}
use Rattle.doc_locks.specs.Names.{Locks}
use Rattle.session_core.specs.declared.history.event.BeginKind.{BeginKind}
use Rattle.session_core.specs.declared.history.event.BeginKind.TheVariants as kinds
use Rattle.session_core.specs.declared.history.event.State.{State}
use Rattle.session_core.specs.declared.history.event.State.TheVariants.{Idle, Updating, Reading, InDoubt}
use Rattle.session_core.specs.declared.history.event.Reply.{Reply}
use Rattle.session_core.specs.declared.history.event.Event.{Event}
use Rattle.session_core.specs.declared.history.event.Event.TheVariants.{Began, Granted, Refused, Answered, Committed, Ended, RolledBack, Doubt, Settled, Left}
use Rattle.session_core.specs.History.{past_of, last_of}
use Rattle.session_core.specs.History.Transactions.{Base, Transaction, open_of, with_reply, commits, commit_count, ran, ran_all, run_calls, serial, after, newest, next_number}
use Rattle.session_core.specs.History.States.{state_with, state, is_open, is_reading, held_with, held_in, in_doubt}
use Rattle.session_core.specs.History.Locks.{IsGranted, IsRefused, IsBehindGrant}
use Rattle.session_core.specs.History.Replies.{RunsNext}
use Rattle.session_core.specs.History.Refusals.{RefusalsAt, IsBehindSettling, is_apart}
use Rattle.session_core.specs.History.Settling.{last_number, MaySettle, ClosesBehind, IsBehindSettled, HasCommitLeft}
use Rattle.session_core.specs.History.Marks.{IsNextMark}
use Rattle.session_core.specs.History.Legal.{SoFar}
use Rattle.session_core.specs.History.Steps.{IsStep}
use Rattle.session_core.specs.Keeping.Table.{States, entry_of, state_at}
use Rattle.session_core.specs.Keeping.Kept.{Follows, forest_in}
use Rattle.session_core.specs.Keeping.Ties.{holding, AllForests, DoubtIsForest, forests_of, IsDoubt, DoubtIs, Ties, IsCore}
use Rattle.session_core.proofs.CallOrder.{in_order}
use Rattle.session_core.proofs.Covering.{apart_not_run, none_ran, ran_all-one}
use Rattle.session_core.proofs.Growing.{past-more, newest-more}
use Rattle.session_core.proofs.Tying.{state_at-entry, states_same, locks_same, forests_of-at, length-forests_of}
use Rattle.session_core.proofs.Stepping.{count_same, forests_same}

-- ---- each event's own clauses

module _ (B : Base) (past : List Event) where
  -- an updating transaction may begin where its session is idle and its last event lets it follow
  pub step_began_update : (s : ℕ) → state s past ≡ Idle → Follows (Began s kinds.Updating) past → IsStep B (Began s kinds.Updating) past
  step_began_update s idle follows =
      record {
        in_order = in_order (Began s kinds.Updating) past follows;
        locks = (tt, follows.0);
        serial = tt;
        snapshots = tt;
        unfinished = tt;
        refusals =
            idle;
        settling = (tt, follows.1);
        marks = (tt, tt);
        next = tt;
      }

  -- a read-only transaction at the newest commit may begin where its session is idle and its last event lets it follow
  pub step_began_read : (s n : ℕ) → state s past ≡ Idle → n ≡ B.numbers.commit + commit_count past → Follows (Began s (kinds.Reading n)) past
      → IsStep B (Began s (kinds.Reading n)) past
  step_began_read s n idle number follows =
      record {
        in_order = in_order (Began s (kinds.Reading n)) past follows;
        locks = (tt, follows.0);
        serial = tt;
        snapshots = number;
        unfinished =
            tt;
        refusals = idle;
        settling = (tt, follows.1);
        marks = (tt, tt);
        next = tt;
      }

  -- a grant of free locks may come where its session's last event lets it follow
  pub step_granted : (s : ℕ) (asked : List Need) → IsGranted s asked past → Follows (Granted s asked) past → IsStep B (Granted s asked) past
  step_granted s asked granted follows =
      record {
        in_order = in_order (Granted s asked) past follows;
        locks = (granted, follows.0);
        serial = tt;
        snapshots = tt;
        unfinished = tt;
        refusals =
            tt;
        settling = (tt, follows.1);
        marks = (tt, tt);
        next = tt;
      }

  -- a refusal of locks that another session holds may come where its session's last event lets it follow
  pub step_refused : (s : ℕ) (name : List ℕ) (holder : ℕ) (asked : List Need) → IsRefused s name holder asked past → Follows (Refused s name holder asked) past
      → IsStep B (Refused s name holder asked) past
  step_refused s name holder asked refused follows =
      record {
        in_order = in_order (Refused s name holder asked) past follows;
        locks = (refused, follows.0);
        serial = tt;
        snapshots = tt;
        unfinished =
            tt;
        refusals = refused.updating;
        settling = (tt, follows.1);
        marks = (tt, tt);
        next = tt;
      }

  not_spent : (a b : ℕ) → a < b → b ≤ a → ⊥
  not_spent a b below above = omega arith

  -- a commit with the next number may come after an updating transaction that runs next,
  -- where nothing is in doubt and a number is left
  pub step_committed : (s n : ℕ) → state s past ≡ Updating → in_doubt past ≡ None → HasCommitLeft B.numbers past → n ≡ next_number B.numbers past
      → RunsNext B s past → Follows (Committed s n) past → IsStep B (Committed s n) past
  step_committed s n updating settled left number runs follows = record {
    in_order = in_order (Committed s n) past follows;
    locks = (tt, follows.0);
    serial = (number, runs);
    snapshots = tt;
    unfinished = tt;
    refusals = updating;
    settling = ((settled, not_spent (B.numbers.commit + commit_count past) last_number left), follows.1);
    marks = (tt, tt);
    next = tt;
  }

  -- a commit may come into doubt with the next number and the next mark, in an updating transaction,
  -- where nothing is in doubt and a number is left
  pub step_doubted : (s n : ℕ) (mark : Mark) → state s past ≡ Updating → in_doubt past ≡ None → HasCommitLeft B.numbers past → n ≡ next_number B.numbers past
      → IsNextMark past mark → Follows (Doubt s n mark) past → IsStep B (Doubt s n mark) past
  step_doubted s n mark updating settled left number next_mark follows = record {
    in_order = in_order (Doubt s n mark) past follows;
    locks = (tt, follows.0);
    serial = number;
    snapshots = tt;
    unfinished = tt;
    refusals = updating;
    settling = ((settled, not_spent (B.numbers.commit + commit_count past) last_number left), follows.1);
    marks = (next_mark, tt);
    next = tt;
  }

  -- a commit in doubt may be settled, with yes or no, by a session that may, where its transaction runs next
  pub step_settled : (by s : ℕ) (stands : Bool) → state s past ≡ InDoubt → MaySettle by s (state by past) → RunsNext B s past
      → Follows (Settled by s stands) past → IsStep B (Settled by s stands) past
  step_settled by s true doubt may runs follows =
      record {
        in_order = in_order (Settled by s true) past follows;
        locks = (tt, follows.0);
        serial = runs;
        snapshots = tt;
        unfinished = tt;
        refusals =
            tt;
        settling = ((doubt, may), follows.1);
        marks = (tt, tt);
        next = tt;
      }
  step_settled by s false doubt may runs follows =
      record {
        in_order = in_order (Settled by s false) past follows;
        locks = (tt, follows.0);
        serial = tt;
        snapshots = tt;
        unfinished = runs;
        refusals =
            tt;
        settling = ((doubt, may), follows.1);
        marks = (tt, tt);
        next = tt;
      }

  -- a read-only transaction may end where its session's last event lets it follow
  pub step_ended : (s : ℕ) → IsTrue (is_reading (state s past)) → Follows (Ended s) past → IsStep B (Ended s) past
  step_ended s reading follows =
      record {
        in_order = in_order (Ended s) past follows;
        locks = (tt, follows.0);
        serial = tt;
        snapshots = tt;
        unfinished = tt;
        refusals = reading;
        settling =
            (tt, follows.1);
        marks = (tt, tt);
        next = tt;
      }

  -- an open transaction that runs next may be rolled back where its session's last event lets it follow
  pub step_rolled_back : (s : ℕ) → IsTrue (is_open (state s past)) → RunsNext B s past → Follows (RolledBack s) past → IsStep B (RolledBack s) past
  step_rolled_back s is runs follows =
      record {
        in_order = in_order (RolledBack s) past follows;
        locks = (tt, follows.0);
        serial = tt;
        snapshots = tt;
        unfinished = runs;
        refusals =
            is;
        settling = (tt, follows.1);
        marks = (tt, tt);
        next = tt;
      }

  -- a session with an open transaction that runs next may leave where its last event lets it follow
  pub step_left : (s : ℕ) → IsTrue (is_open (state s past)) → RunsNext B s past → Follows (Left s) past → IsStep B (Left s) past
  step_left s is runs follows =
      record {
        in_order = in_order (Left s) past follows;
        locks = (tt, follows.0);
        serial = tt;
        snapshots = tt;
        unfinished = runs;
        refusals = is;
        settling =
            (tt, follows.1);
        marks = (tt, tt);
        next = tt;
      }

-- a read-only transaction is an open one
pub open_of_reading : (x : State) → IsTrue (is_reading x) → IsTrue (is_open x)
open_of_reading Idle is = is
open_of_reading Updating is = refl
open_of_reading (Reading n) is = refl
open_of_reading InDoubt is = is

-- where a grant may follow a refusal may
pub refused_follows : (s : ℕ) (name : List ℕ) (holder : ℕ) (asked : List Need) (past : List Event) → Follows (Granted s asked) past
    → Follows (Refused s name holder asked) past
refused_follows s name holder asked past follows = (behind_grant (last_of s past) follows.0, behind_settled (last_of s past) follows.1)
  where
    behind_grant : (last : Option Event) → IsBehindGrant last (Granted s asked) → IsBehindGrant last (Refused s name holder asked)
    behind_grant None may = may
    behind_grant (Some (Began t kind)) may = may
    behind_grant (Some (Granted t given)) may = may
    behind_grant (Some (Refused t word by given)) may = may
    behind_grant (Some (Answered t r)) may = may
    behind_grant (Some (Committed t n)) may = may
    behind_grant (Some (Ended t)) may = may
    behind_grant (Some (RolledBack t)) may = may
    behind_grant (Some (Doubt t n mark)) may = may
    behind_grant (Some (Settled by t stands)) may = may
    behind_grant (Some (Left t)) may = may

    by_whose : (b : Bool) → ClosesBehind b (Granted s asked) past → ClosesBehind b (Refused s name holder asked) past
    by_whose true may = may
    by_whose false may = may

    behind_settled : (last : Option Event) → IsBehindSettled last (Granted s asked) past → IsBehindSettled last (Refused s name holder asked) past
    behind_settled None may = may
    behind_settled (Some (Began t kind)) may = may
    behind_settled (Some (Granted t given)) may = may
    behind_settled (Some (Refused t word by given)) may = may
    behind_settled (Some (Answered t r)) may = may
    behind_settled (Some (Committed t n)) may = may
    behind_settled (Some (Ended t)) may = may
    behind_settled (Some (RolledBack t)) may = may
    behind_settled (Some (Doubt t n mark)) may = may
    behind_settled (Some (Settled by t stands)) may = by_whose (by == t) may
    behind_settled (Some (Left t)) may = may

-- ---- an answer

module _ (B : Base) (past : List Event) (t : ℕ) (r : Reply) (refusals : RefusalsAt (Answered t r) past) where
  not_ran : (x : State) → x ≡ InDoubt → (IsTrue (is_apart r.says)) ⊎ IsBehindSettling x r.call r.says → ran r ≡ []
  not_ran InDoubt is (inl apart) = none_ran r.call r.says (apart_not_run r.says apart)
  not_ran InDoubt is (inr never) = absurd never
  not_ran Idle is order = cc
  not_ran Updating is order = cc
  not_ran (Reading n) is order = cc

  more_replies : (rs : List Reply) → ran r ≡ [] → ran_all (rs ++ r ∷ []) ≡ ran_all rs
  more_replies rs none = ran_all-one rs r ∙ ap (λ l. ran_all rs ++ l) none ∙ append-nil (ran_all rs)

  newest_stays : newest B (Answered t r ∷ past) ≡ newest B past
  newest_stays = newest-more B (Answered t r) past

  in_doubt_state : (s : ℕ) (F : Forest) → IsDoubt B past s F → state s past ≡ InDoubt
  in_doubt_state s F is = ap state_with is.open_is ∙ marked_state is.transaction is.marked
    where
      marked_state : (u : Transaction) → u.in_doubt ≡ true → state_with (Some u) ≡ InDoubt
      marked_state u is = ap (λ b. state_with (Some (record u { in_doubt = b }))) is

  doubt_answered : (d : Option (ℕ × Forest)) → DoubtIs B past d → DoubtIs B (Answered t r ∷ past) d
  doubt_answered None is = is
  doubt_answered (Some d) is = by_test (t == d.0) refl
    where
      by_test : (b : Bool) → (t == d.0) ≡ b → IsDoubt B (Answered t r ∷ past) d.0 d.1
      by_test true same = record {
        in_doubt_is = is.in_doubt_is;
        transaction = record is.transaction { replies = is.transaction.replies ++ r ∷ [] };
        open_is = ap (λ b. if b then with_reply r (open_of d.0 past) else open_of d.0 past) same ∙ ap (with_reply r) is.open_is;
        kind_is = is.kind_is;
        marked = is.marked;
        forest_is = is.forest_is
            ∙ ap (run_calls (newest B past))
            (sym (more_replies is.transaction.replies
            (not_ran (state t past) (ap (λ z. state z past) (eqb-true t d.0 same) ∙ in_doubt_state d.0 d.1 is) refusals)))
            ∙ ap (λ F. run_calls F (ran_all (is.transaction.replies ++ r ∷ []))) (sym newest_stays);
        left = subst (λ n. B.numbers.commit + n < last_number) (sym (count_same (Answered t r) past refl)) is.left;
      }
      by_test false other = record {
        in_doubt_is = is.in_doubt_is;
        transaction = is.transaction;
        open_is = ap (λ b. if b then with_reply r (open_of d.0 past) else open_of d.0 past) other ∙ is.open_is;
        kind_is = is.kind_is;
        marked = is.marked;
        forest_is = is.forest_is ∙ ap (λ F. run_calls F (ran_all is.transaction.replies)) (sym newest_stays);
        left = subst (λ n. B.numbers.commit + n < last_number) (sym (count_same (Answered t r) past refl)) is.left;
      }

  state-with_reply : (o : Option Transaction) → state_with (with_reply r o) ≡ state_with o
  state-with_reply None = refl
  state-with_reply (Some u) = refl

  held-replied_by : (name : List ℕ) (u : Transaction) (kind : BeginKind) → held_in name (record u { replies = u.replies ++ r ∷ [] }) kind ≡ held_in name u kind
  held-replied_by name u kinds.Updating = refl
  held-replied_by name u (kinds.Reading n) = refl

  held-with_reply : (name : List ℕ) (o : Option Transaction) → held_with name (with_reply r o) ≡ held_with name o
  held-with_reply name None = refl
  held-with_reply name (Some u) = held-replied_by name u u.kind

  -- an answer leaves the table, the locks, the forests and the commit in doubt as the events tell them
  pub ties_answered : (states : States) (locks : Locks) (forests : List Forest) (doubt : Option (ℕ × Forest)) → Ties B past states locks forests doubt
      → Ties B (Answered t r ∷ past) states locks forests doubt
  ties_answered states locks forests doubt ties = record {
    states_are = states_same past states t (with_reply r) ties.states_are state-with_reply;
    locks_are = locks_same past locks t (with_reply r) ties.locks_are (λ name. held-with_reply name (open_of t past));
    forests_are = forests_same B (Answered t r) past forests ties.forests_are refl;
    doubt_is = doubt_answered doubt ties.doubt_is;
  }

-- ---- the core with one event more

-- what is held is a core with one event more, if the longer journal is legal, all else is what it tells,
-- there is room for the events that end transactions, and all forests are valid
pub core_more : (B : Base) (journal journal' : List Event) (e : Event) (capacity : ℕ) (states : States) (opened number : ℕ) (locks : Locks)
    (forests : List Forest) (doubt : Option (ℕ × Forest))
    → journal' ≡ journal ++ e ∷ [] → SoFar B (journal ++ e ∷ []) → Ties B (e ∷ past_of journal) states locks forests doubt → opened ≡ fin.len states
    → length journal' + opened ≤ capacity → number ≡ B.numbers.commit + commit_count (e ∷ past_of journal) → AllForests forests → DoubtIsForest doubt
    → IsCore B (holding journal' capacity states opened number locks forests doubt)
core_more B journal journal' e capacity states opened number locks forests doubt more legal ties opened_is room number_is valid doubt_valid = record {
  legal = subst (SoFar B) (sym more) legal;
  ties = subst (λ past. Ties B past states locks forests doubt) (sym (past-more journal e)
      ∙ ap past_of (sym more)) ties;
  opened_is = opened_is;
  room = room;
  number_is = subst (λ past. number ≡ B.numbers.commit + commit_count past) (sym (past-more journal e) ∙ ap past_of (sym more)) number_is;
  valid = valid;
  doubt_valid = doubt_valid;
}

-- ---- how many transactions are open

-- a session that was not in the table makes it longer by one
pub len-begun : (states : States) (t : ℕ) (x : State) → fin.get states t ≡ None → fin.len (fin.insert states t x) ≡ fin.len states + 1
len-begun states t x none = fin.len-insert nat_cmp_total states t x ∙ ap (λ b. cond b (fin.len states) (fin.len states + 1)) (ap is_some none)

-- a session that was in the table leaves its length as it is
pub len-kept : (states : States) (t : ℕ) (x : State) → is_some (fin.get states t) ≡ true → fin.len (fin.insert states t x) ≡ fin.len states
len-kept states t x some = fin.len-insert nat_cmp_total states t x ∙ ap (λ b. cond b (fin.len states) (fin.len states + 1)) some

-- a session that was in the table makes it shorter by one where it is taken out
pub len-gone : (states : States) (t : ℕ) → is_some (fin.get states t) ≡ true → fin.len (fin.remove states t) ≡ fin.len states - 1
len-gone states t some = fin.len-remove nat_cmp_total states t ∙ ap (λ b. cond b (fin.len states - 1) (fin.len states)) some

-- a table with a session in it has a length above 0
pub some_open : (states : States) (t : ℕ) → is_some (fin.get states t) ≡ true → 0 < fin.len states
some_open states t some = by_len (fin.len states) refl
  where
    by_len : (n : ℕ) → fin.len states ≡ n → 0 < n
    by_len zero none = absurd (true≢false (sym some ∙ ap (λ m. is_some (fin.get m t)) (fin.empty_of_len states none) ∙ ap is_some (fin.get-empty nat_cmp t)))
    by_len (suc n) is = omega arith

-- a session with an open transaction has an entry in the table
pub in_table : (x : State) → IsTrue (is_open x) → is_some (entry_of x) ≡ true
in_table Idle is = is
in_table Updating is = refl
in_table (Reading n) is = refl
in_table InDoubt is = refl

-- ---- forests

-- one valid forest more
pub all_more : (forests : List Forest) (F : Forest) → AllForests forests → IsForest F → AllForests (forests ++ F ∷ [])
all_more [] F all is = (is, tt)
all_more (G ∷ more) F all is = (all.0, all_more more F all.1 is)

-- the forest behind so many transactions is one of them
pub valid_at : (F : Forest) (ts : List Transaction) (n : ℕ) → AllForests (forests_of F ts) → IsForest (serial F (take n ts))
valid_at F [] zero all = all.0
valid_at F [] (suc n) all = all.0
valid_at F (t ∷ more) zero all = all.0
valid_at F (t ∷ more) (suc n) all = valid_at (run_calls F (ran_all t.replies)) more n all.1

within_or : (k n : ℕ) → (min k n ≡ k) ⊎ ((min k n ≡ n) × (n ≤ k))
within_or k n = by_test (nat_le k n) refl
  where
    by_test : (b : Bool) → nat_le k n ≡ b → (min k n ≡ k) ⊎ ((min k n ≡ n) × (n ≤ k))
    by_test true is = let below : k ≤ n = grind (arith, nat_tests) in inl (omega arith)
    by_test false is = let above : n < k = grind (arith, nat_tests) in inr (omega arith, omega arith)

take-min : {A : Type 0} (xs : List A) (k : ℕ) → take (min k (length xs)) xs ≡ take k xs
take-min xs k = by_place (within_or k (length xs))
  where
    by_place : (min k (length xs) ≡ k) ⊎ ((min k (length xs) ≡ length xs) × (length xs ≤ k)) → take (min k (length xs)) xs ≡ take k xs
    by_place (inl is) = ap (λ n. take n xs) is
    by_place (inr is) = ap (λ n. take n xs) is.0 ∙ take-length xs ∙ sym (take_all k xs is.1)

-- of the forests of a journal, the one at k, or the last where there are fewer, is the one after k commits
pub forest_found : (B : Base) (past : List Event) (forests : List Forest) (k : ℕ) (F : Forest) → forests ≡ forests_of B.forest (commits past)
    → slice_get forests (min k (length forests - 1)) ≡ Some F → F ≡ after B past k
forest_found B past forests k F are found =
    forests_of-at B.forest (commits past) (min k (length forests - 1)) F (ap (λ l. slice_get l (min k (length forests - 1))) (sym are) ∙ found)
    ∙ ap (λ n. serial B.forest (take (min k n) (commits past))) last
    ∙ ap (serial B.forest) (take-min (commits past) k)
  where
    last : length forests - 1 ≡ length (commits past)
    last = let count : length forests ≡ length (commits past) + 1 = ap length are ∙ length-forests_of B.forest (commits past) in omega arith

-- a journal has a forest at least
pub some_forest : (B : Base) (past : List Event) (forests : List Forest) → forests ≡ forests_of B.forest (commits past) → 0 < length forests
some_forest B past forests are = let count : length forests ≡ length (commits past) + 1 = ap length are ∙ length-forests_of B.forest (commits past) in
    omega arith

-- the state that the table tells
pub state_told : (past : List Event) (states : States) (s : ℕ) → fin.get states s ≡ entry_of (state s past) → state_at (fin.get states s) ≡ state s past
state_told past states s is = ap state_at is ∙ state_at-entry (state s past)

-- a reader sees the forest at its commit, and each other session the newest
pub forest_read : (B : Base) (past : List Event) (forests : List Forest) (s n k : ℕ) (F : Forest) → forests ≡ forests_of B.forest (commits past)
    → slice_get forests (min k (length forests - 1)) ≡ Some F → k ≡ n - B.numbers.commit → state s past ≡ Reading n → F ≡ forest_in B past (state s past)
forest_read B past forests s n k F are found place reads = forest_found B past forests k F are found ∙ ap (after B past) place
    ∙ ap (forest_in B past) (sym reads)

-- a session that is no reader sees the forest that stands at the newest commit number
pub forest_newest : (B : Base) (past : List Event) (forests : List Forest) (x : State) (number : ℕ) (F : Forest) → forests ≡ forests_of B.forest (commits past)
    → slice_get forests (min (number - B.numbers.commit) (length forests - 1)) ≡ Some F → number ≡ B.numbers.commit + commit_count past
    → ((n : ℕ) → x ≡ Reading n → ⊥) → F ≡ forest_in B past x
forest_newest B past forests x number F are found number_is not_reading = forest_found B past forests (number - B.numbers.commit) F are found
    ∙ ap (after B past) place ∙ by_state x not_reading
  where
    place : number - B.numbers.commit ≡ commit_count past
    place = omega arith

    by_state : (x : State) → ((n : ℕ) → x ≡ Reading n → ⊥) → newest B past ≡ forest_in B past x
    by_state Idle other = refl
    by_state Updating other = refl
    by_state (Reading n) other = absurd (other n refl)
    by_state InDoubt other = refl
