-- A worked history: a commit in doubt is settled with yes when another session commits.
use Rattle.std.proofs.Common.{◌≡◌, ℕ, zero, suc, ◌==◌, true, false, true≢false, List, [], ◌∷◌, length, None, Some, Ok, refl, sym, ap, subst, arith}
use mathlib.Core.Logic.{inl, inr}
use Rattle.xq_ast.specs.declared.call.Call.TheVariants.{Begin, Commit, Create}
use Rattle.session_core.specs.declared.history.event.BeginKind.TheVariants as kinds
use Rattle.session_core.specs.declared.history.event.Says.TheVariants as says
use Rattle.session_core.specs.declared.history.event.Event.{Event}
use Rattle.session_core.specs.declared.history.event.Event.TheVariants.{Began, Granted, Answered, Committed, Doubt, Settled}
use Rattle.session_core.specs.History.{past_of, AtEach}
use Rattle.session_core.specs.History.CallOrder.{CallOrderAt}
use Rattle.session_core.specs.History.Transactions.{Base, updating, open_of, newest}
use Rattle.session_core.specs.History.States.{state, state_with, is_open}
use Rattle.session_core.specs.History.Locks.{LocksAt}
use Rattle.session_core.specs.History.Replies.{SerialAt, SnapshotsAt, RunsNext, AllInTurn}
use Rattle.session_core.specs.History.Settling.{SettlingAt}
use Rattle.session_core.specs.History.Marks.{MarksAt}
use Rattle.session_core.specs.History.Closes.{Scripts, ClosesAtEnd, calls_of, closed_of}
use Rattle.session_core.specs.History.Legal.{SoFar, Legal, IsClosed, IsUnfinished, IsOrdered}
use Rattle.session_core.proofs.Sessions.{◌⊳◌}
use Rattle.session_core.proofs.Worked.{B, answer, first_failure, free_begun, free_granted, OthersIdle, all_run, all_end}
use Rattle.session_core.proofs.Worked.Calls.{d, begin, commit, create, begin_is, commit_is, create_is, exclusive}
use Rattle.session_core.proofs.Worked.Statements.{create_says}

abbrev P : Scripts
P = (begin ∷ create ∷ commit ∷ []) ∷ (begin ∷ commit ∷ []) ∷ []

-- a commit comes into doubt, another session that commits settles it with yes, and then commits
abbrev pub journal : List Event
journal =
    Began 1 kinds.Updating
    ∷ Granted 1 exclusive
    ∷ Answered 1 (answer (Create d) says.Done)
    ∷ Doubt 1 1 first_failure
    ∷ Began 2 kinds.Updating
    ∷ Settled 2 1 true
    ∷ Committed 2 2
    ∷ []

in_order : AtEach CallOrderAt (past_of journal)
in_order = refl ⊳ refl ⊳ refl ⊳ refl ⊳ refl ⊳ refl ⊳ refl ⊳ tt

locks : AtEach LocksAt (past_of journal)
locks =
    (tt, tt) ⊳ (tt, tt) ⊳ (tt, tt) ⊳ (tt, tt)
    ⊳ (((refl, tt), λ passes other. (free_granted exclusive _, tt)), refl)
    ⊳ (record { updating = refl; call = Create d; needs_are = refl; some = omega arith; free = (free_begun _, tt) }, tt)
    ⊳ (tt, tt) ⊳ tt

serial : AtEach (SerialAt B) (past_of journal)
serial = (refl, (tt, tt)) ⊳ ((create_says, tt), tt) ⊳ tt ⊳ refl ⊳ tt ⊳ tt ⊳ tt ⊳ tt

snapshots : AtEach (SnapshotsAt B) (past_of journal)
snapshots = tt ⊳ tt ⊳ tt ⊳ tt ⊳ tt ⊳ tt ⊳ tt ⊳ tt

idle : OthersIdle (past_of journal)
idle s first second = rw (first, second) refl

nothing_closed : (s : ℕ) → (1 == s) ≡ false → (2 == s) ≡ false → closed_of s (past_of journal) ≡ length (calls_of P s)
nothing_closed zero first second = refl
nothing_closed (suc zero) first second = absurd (true≢false first)
nothing_closed (suc (suc zero)) first second = absurd (true≢false second)
nothing_closed (suc (suc (suc s))) first second = rw (first, second) refl

ends : ClosesAtEnd P (past_of journal)
ends = all_end P (past_of journal) idle nothing_closed (refl, refl) (refl, refl)

unfinished : IsUnfinished B (past_of journal)
unfinished = record {
  each = tt ⊳ tt ⊳ tt ⊳ tt ⊳ tt ⊳ tt ⊳ tt ⊳ tt;
  at_end = all_run (past_of journal) idle tt tt;
}

refusals : IsOrdered P (past_of journal)
refusals = record {
  by_state = refl ⊳ tt ⊳ refl ⊳ refl ⊳ inr refl ⊳ tt ⊳ refl ⊳ tt;
  by_text = tt ⊳ tt ⊳ tt ⊳ tt ⊳ record { what = Ok (Create d); parsed = create_is; answers = tt } ⊳ tt ⊳ tt ⊳ tt;
}

settling : AtEach (SettlingAt B.numbers) (past_of journal)
settling =
    ((refl, λ none. omega (arith, none)), tt)
    ⊳ ((refl, inr (inl refl)), tt)
    ⊳ (tt, tt)
    ⊳ ((refl, λ none. omega (arith, none)), tt)
    ⊳ (tt, tt) ⊳ (tt, tt) ⊳ (tt, tt) ⊳ tt

marks : AtEach MarksAt (past_of journal)
marks = (tt, tt) ⊳ (tt, tt) ⊳ (tt, tt) ⊳ ((inl (omega arith), tt), tt) ⊳ (tt, tt) ⊳ (tt, tt) ⊳ (tt, tt) ⊳ tt

closes : IsClosed P (past_of journal)
closes = record {
  each =
      (record { what = Ok Commit; parsed = commit_is; closes = refl }, refl)
      ⊳ (inr (record { call = Commit; parsed = commit_is; writes = refl }), refl)
      ⊳ (record { what = Ok Begin; parsed = begin_is; closes = refl }, refl)
      ⊳ (record { what = Ok Commit; parsed = commit_is; closes = refl }, refl)
      ⊳ (record { what = Ok (Create d); parsed = create_is; closes = inl refl }, refl)
      ⊳ (record { call = Create d; parsed = create_is; needs_are = refl }, refl)
      ⊳ (record { what = Ok Begin; parsed = begin_is; closes = refl }, refl)
      ⊳ tt;
  in_order = in_order;
  at_end = ends;
}

-- the journal is a legal history of the scripts
pub is_legal : Legal journal B P
is_legal = record {
  closes = closes;
  locks = locks;
  serial = serial;
  snapshots = snapshots;
  unfinished = unfinished;
  refusals = refusals;
  settling =
      settling;
  marks = marks;
}

-- and it is so with the first answer
abbrev answered : List Event
answered = Began 1 kinds.Updating ∷ Granted 1 exclusive ∷ Answered 1 (answer (Create d) says.Done) ∷ []

none_answered : OthersIdle (past_of answered)
none_answered s first second = rw (first) refl

-- the journal is legal so far where its first answer has been given
pub so_far : SoFar B answered
so_far = record {
  in_order = in_order.1.1.1.1;
  locks = locks.1.1.1.1;
  serial = serial.1.1.1.1;
  snapshots = snapshots.1.1.1.1;
  unfinished = record { each = unfinished.each.1.1.1.1; at_end = all_run (past_of answered) none_answered ((create_says, tt), tt) tt };
  refusals = refusals.by_state.1.1.1.1;
  settling = settling.1.1.1.1;
  marks = marks.1.1.1.1;
}
