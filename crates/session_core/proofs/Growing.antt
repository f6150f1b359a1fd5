-- A journal that is legal so far grows by one event.
use Rattle.std.proofs.Common.{◌≡◌, ℕ, ◌==◌, Bool, true, false, true≢false, List, [], ◌∷◌, ◌++◌, Option, None, Some, refl, sym, ap, subst, ◌∙◌}
use Rattle.std.specs.Prelude.{if◌then◌else◌}
use Rattle.std.proofs.lemmas.Bool.{eqb-true, eqb-false}
use Rattle.std.proofs.lemmas.List.{reverse-append}
use Rattle.std.proofs.Math.Seq.{take-length}
use Rattle.xq_ast.specs.declared.need.Need.{Need}
use Rattle.xml_model.specs.Forest.{Forest}
use Rattle.xml_model.specs.Needs.{has_exclusive}
use Rattle.xml_model.specs.Statement.{stmt}
use Rattle.session_core.specs.declared.history.event.BeginKind.{BeginKind}
use Rattle.session_core.specs.declared.history.event.BeginKind.TheVariants as kinds
use Rattle.session_core.specs.declared.history.event.Reply.{Reply}
use Rattle.session_core.specs.declared.history.event.Event.{Event}
use Rattle.session_core.specs.declared.history.event.Event.TheVariants.{Began, Granted, Refused, Answered, Committed, Ended, RolledBack, Doubt, Settled, Left}
use Rattle.session_core.specs.History.{AtEach, past_of}
use Rattle.session_core.specs.History.CallOrder.{CallOrderAt}
use Rattle.session_core.specs.History.Transactions.{Base, Transaction, Ran, open_of, open_behind, begun, with_locks, with_reply, with_doubt, updating, where_updating, commits, committed_by, ran, ran_all, run_calls, serial, newest, AnsweredInTurn}
use Rattle.session_core.specs.History.Locks.{LocksAt}
use Rattle.session_core.specs.History.Replies.{AllInTurn, RunsNext, SerialAt, SnapshotsAt, UnfinishedAt, UnfinishedAtEnd}
use Rattle.session_core.specs.History.Refusals.{RefusalsAt}
use Rattle.session_core.specs.History.Settling.{SettlingAt}
use Rattle.session_core.specs.History.Marks.{MarksAt}
use Rattle.session_core.specs.History.Legal.{SoFar}
use Rattle.session_core.specs.History.Steps.{IsNextReply, IsNext, IsStep}
use Rattle.session_core.proofs.Holding.{locks_of, all_apart}
use Rattle.session_core.proofs.Covering.{covered, ran_all-one}
use Rattle.session_core.proofs.Turning.{beside_commit, AreApartLocks}

-- one event more at the end of a journal is the newest of its events
pub past-more : (journal : List Event) (e : Event) → past_of (journal ++ e ∷ []) ≡ e ∷ past_of journal
past-more journal e = reverse-append journal (e ∷ [])

-- ---- the newest forest

serial-append : (F : Forest) (ts us : List Transaction) → serial F (ts ++ us) ≡ serial (serial F ts) us
serial-append F [] us = refl
serial-append F (t ∷ ts) us = serial-append (run_calls F (ran_all t.replies)) ts us

newest_is : (B : Base) (past : List Event) → newest B past ≡ serial B.forest (commits past)
newest_is B past = ap (serial B.forest) (take-length (commits past))

-- the newest forest after an event is the one before, with what the event commits run on it
pub newest-more : (B : Base) (e : Event) (past : List Event) → newest B (e ∷ past) ≡ serial (newest B past) (committed_by e past)
newest-more B e past = newest_is B (e ∷ past) ∙ serial-append B.forest (commits past) (committed_by e past)
    ∙ ap (λ F. serial F (committed_by e past)) (sym (newest_is B past))

-- ---- what an event does to an open transaction that runs next

abbrev RunsOn : Forest → Option Transaction → Type 0
RunsOn F o = AllInTurn F (updating o)

runs_begun : (F : Forest) (kind : BeginKind) → RunsOn F (Some (begun kind))
runs_begun F kinds.Updating = (tt, tt)
runs_begun F (kinds.Reading n) = tt

runs_locked_by : (F : Forest) (more : List Need) (t : Transaction) (kind : BeginKind) → AllInTurn F (where_updating t kind)
    → AllInTurn F (where_updating (record t { locks = t.locks ++ more }) kind)
runs_locked_by F more t kinds.Updating runs = runs
runs_locked_by F more t (kinds.Reading n) runs = tt

runs_locked : (F : Forest) (more : List Need) (o : Option Transaction) → RunsOn F o → RunsOn F (with_locks more o)
runs_locked F more None runs = tt
runs_locked F more (Some t) runs = runs_locked_by F more t t.kind runs

runs_doubted_by : (F : Forest) (t : Transaction) (kind : BeginKind) → AllInTurn F (where_updating t kind)
    → AllInTurn F (where_updating (record t { in_doubt = true }) kind)
runs_doubted_by F t kinds.Updating runs = runs
runs_doubted_by F t (kinds.Reading n) runs = tt

runs_doubted : (F : Forest) (o : Option Transaction) → RunsOn F o → RunsOn F (with_doubt o)
runs_doubted F None runs = tt
runs_doubted F (Some t) runs = runs_doubted_by F t t.kind runs

runs_if : (F : Forest) (b : Bool) (old new : Option Transaction) → RunsOn F old → RunsOn F new → RunsOn F (if b then new else old)
runs_if F true old new before behind = behind
runs_if F false old new before behind = before

-- ---- replies

answered-append : (F : Forest) (xs ys : List Ran) → AnsweredInTurn F xs → AnsweredInTurn (run_calls F xs) ys → AnsweredInTurn F (xs ++ ys)
answered-append F [] ys front behind = behind
answered-append F (x ∷ xs) ys front behind = (front.0, answered-append (stmt F x.call).forest xs ys front.1 behind)

runs_replied_by : (F : Forest) (r : Reply) (t : Transaction) (kind : BeginKind) → AllInTurn F (where_updating t kind) → IsNextReply F (where_updating t kind) r
    → AllInTurn F (where_updating (record t { replies = t.replies ++ r ∷ [] }) kind)
runs_replied_by F r t kinds.Updating runs next =
    (subst (AnsweredInTurn F) (sym (ran_all-one t.replies r)) (answered-append F (ran_all t.replies) (ran r) runs.0 next.0), tt)
runs_replied_by F r t (kinds.Reading n) runs next = tt

runs_replied : (F : Forest) (r : Reply) (o : Option Transaction) → RunsOn F o → IsNextReply F (updating o) r → RunsOn F (with_reply r o)
runs_replied F r None runs next = tt
runs_replied F r (Some t) runs next = runs_replied_by F r t t.kind runs next

runs_if_same : (F : Forest) (who s : ℕ) (old new : Option Transaction) → RunsOn F old → (who ≡ s → RunsOn F new) → RunsOn F (if who == s then new else old)
runs_if_same F who s old new before behind = by_test (who == s) refl
  where
    by_test : (b : Bool) → (who == s) ≡ b → RunsOn F (if b then new else old)
    by_test true same = behind (eqb-true who s same)
    by_test false other = before

-- ---- each event leaves what runs next

-- a session's transactions are committed, and all others run next behind them
committed_beside : (B : Base) (past : List Event) → AtEach LocksAt past → AtEach RefusalsAt past → (who s : ℕ) → RunsNext B s past
    → RunsOn (serial (newest B past) (updating (open_of who past))) (if who == s then None else open_of s past)
committed_beside B past locks refusals who s runs = by_test (who == s) refl
  where
    apart : (who ≡ s → ⊥) → AreApartLocks (locks_of who past) (locks_of s past)
    apart other name there = by_mode (has_exclusive name (locks_of who past)) refl
      where
        by_mode : (b : Bool) → has_exclusive name (locks_of who past) ≡ b → b ≡ false
        by_mode true is = absurd (true≢false (sym there ∙ all_apart past locks who s other name is))
        by_mode false is = refl

    by_test : (b : Bool) → (who == s) ≡ b → RunsOn (serial (newest B past) (updating (open_of who past))) (if b then None else open_of s past)
    by_test true same = tt
    by_test false other = beside_commit (newest B past) (open_of who past) (open_of s past) (covered past locks refusals who) (covered past locks refusals s)
        (apart (eqb-false who s other)) runs

on_newest : (B : Base) (e : Event) (past : List Event) (s : ℕ) → RunsOn (serial (newest B past) (committed_by e past)) (open_behind s e (open_of s past))
    → RunsNext B s (e ∷ past)
on_newest B e past s runs = subst (λ F. RunsOn F (open_behind s e (open_of s past))) (sym (newest-more B e past)) runs

next_answer : (B : Base) (who s : ℕ) (r : Reply) (past : List Event) → who ≡ s → RunsNext B s past → IsNextReply (newest B past) (updating (open_of who past)) r
    → RunsOn (newest B past) (with_reply r (open_of s past))
next_answer B who s r past same runs next =
    runs_replied (newest B past) r (open_of s past) runs (subst (λ z. IsNextReply (newest B past) (updating (open_of z past)) r) same next)

still_runs : (B : Base) (e : Event) (past : List Event) → AtEach LocksAt past → AtEach RefusalsAt past → (s : ℕ) → RunsNext B s past → IsNext B e past
    → RunsOn (serial (newest B past) (committed_by e past)) (open_behind s e (open_of s past))
still_runs B (Began t kind) past locks refusals s runs next = runs_if (newest B past) (t == s) (open_of s past) _ runs (runs_begun (newest B past) kind)
still_runs B (Granted t more) past locks refusals s runs next =
    runs_if (newest B past) (t == s) (open_of s past) _ runs (runs_locked (newest B past) more (open_of s past) runs)
still_runs B (Refused t name holder asked) past locks refusals s runs next = runs
still_runs B (Answered t r) past locks refusals s runs next =
    runs_if_same (newest B past) t s (open_of s past) _ runs (λ same. next_answer B t s r past same runs next)
still_runs B (Committed t n) past locks refusals s runs next = committed_beside B past locks refusals t s runs
still_runs B (Ended t) past locks refusals s runs next = runs_if (newest B past) (t == s) (open_of s past) None runs tt
still_runs B (RolledBack t) past locks refusals s runs next = runs_if (newest B past) (t == s) (open_of s past) None runs tt
still_runs B (Doubt t n mark) past locks refusals s runs next =
    runs_if (newest B past) (t == s) (open_of s past) _ runs (runs_doubted (newest B past) (open_of s past) runs)
still_runs B (Settled by t true) past locks refusals s runs next = committed_beside B past locks refusals t s runs
still_runs B (Settled by t false) past locks refusals s runs next = runs_if (newest B past) (t == s) (open_of s past) None runs tt
still_runs B (Left t) past locks refusals s runs next = runs_if (newest B past) (t == s) (open_of s past) None runs tt

-- strict locking: a journal that is legal so far is legal with one event more
pub grows : (B : Base) (journal : List Event) (e : Event) → SoFar B journal → IsStep B e (past_of journal) → SoFar B (journal ++ e ∷ [])
grows B journal e so_far step = record {
  in_order = over (AtEach CallOrderAt) (step.in_order, so_far.in_order);
  locks = over (AtEach LocksAt) (step.locks, so_far.locks);
  serial = over (AtEach (SerialAt B)) (step.serial, so_far.serial);
  snapshots = over (AtEach (SnapshotsAt B)) (step.snapshots, so_far.snapshots);
  unfinished = record {
    each = over (AtEach (UnfinishedAt B)) (step.unfinished, so_far.unfinished.each);
    at_end = over (UnfinishedAtEnd B)
        (λ s. on_newest B e (past_of journal) s (still_runs B e (past_of journal) so_far.locks so_far.refusals s (so_far.unfinished.at_end s) step.next));
  };
  refusals = over (AtEach RefusalsAt) (step.refusals, so_far.refusals);
  settling = over (AtEach (SettlingAt B.numbers)) (step.settling, so_far.settling);
  marks = over (AtEach MarksAt) (step.marks, so_far.marks);
}
  where
    over : (Fact : List Event → Type 0) → Fact (e ∷ past_of journal) → Fact (past_of (journal ++ e ∷ []))
    over Fact fact = subst Fact (sym (past-more journal e)) fact

-- an empty journal is legal so far
pub begins : (B : Base) → SoFar B []
begins B = record {
  in_order = tt;
  locks = tt;
  serial = tt;
  snapshots = tt;
  unfinished = record { each = tt; at_end = λ s. tt };
  refusals = tt;
  settling =
      tt;
  marks = tt;
}
