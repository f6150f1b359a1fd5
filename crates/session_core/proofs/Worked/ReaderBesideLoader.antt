-- A worked history: one session loads a document and commits; another reads before and behind that commit.
use Rattle.std.proofs.Common.{◌≡◌, ℕ, ◌==◌, false, List, [], ◌∷◌, ◌++◌, None, Some, Ok, length, zero, suc, true≢false, refl, sym, ap, subst, arith}
use mathlib.Core.Logic.{inl, inr}
use Rattle.xq_ast.specs.declared.call.Call.TheVariants.{Begin, BeginRead, Commit, Load, Export}
use Rattle.xq_ast.specs.declared.code.Code.TheVariants as codes_of
use Rattle.session_core.specs.declared.history.event.BeginKind.TheVariants as kinds
use Rattle.session_core.specs.declared.history.event.Says.TheVariants as says
use Rattle.session_core.specs.declared.history.event.Event.{Event}
use Rattle.session_core.specs.declared.history.event.Event.TheVariants.{Began, Granted, Answered, Committed, Ended}
use Rattle.session_core.specs.History.{past_of, AtEach}
use Rattle.session_core.specs.History.CallOrder.{CallOrderAt}
use Rattle.session_core.specs.History.Transactions.{Base, updating, open_of, newest}
use Rattle.session_core.specs.History.States.{state, state_with, is_open}
use Rattle.session_core.specs.History.Locks.{LocksAt}
use Rattle.session_core.specs.History.Replies.{SerialAt, SnapshotsAt, RunsNext, AllInTurn}
use Rattle.session_core.specs.History.Settling.{SettlingAt}
use Rattle.session_core.specs.History.Marks.{MarksAt}
use Rattle.session_core.specs.History.Closes.{Scripts, calls_of, closed_of}
use Rattle.session_core.specs.History.Legal.{SoFar, Legal, IsClosed, IsUnfinished, IsOrdered}
use Rattle.session_core.proofs.Sessions.{◌⊳◌}
use Rattle.session_core.proofs.Worked.{B, answer, first_failure, free_begun, free_granted, OthersIdle, all_run, all_end}
use Rattle.session_core.proofs.Worked.Statements.{load_says, export_before, export_behind}
use Rattle.session_core.proofs.Worked.Calls.{d, element, begin, begin_read, commit, load, export, begin_is, begin_read_is, commit_is, load_is, export_is, exclusive}

-- the first session begins, loads `d` and commits; the second twice begins to read, exports `d` and commits
abbrev pub P : Scripts
P = (begin ∷ load ∷ commit ∷ []) ∷ (begin_read ∷ export ∷ commit ∷ begin_read ∷ export ∷ commit ∷ []) ∷ []

-- the second session's first export finds no document, and its second one finds what was loaded
abbrev pub journal : List Event
journal =
    Began 1 kinds.Updating
    ∷ Granted 1 exclusive
    ∷ Answered 1 (answer (Load d element) says.Done)
    ∷ Began 2 (kinds.Reading 0)
    ∷ Committed 1 1
    ∷ Answered 2 (answer (Export d) (says.Error codes_of.FODC0002))
    ∷ Ended 2
    ∷ Began 2 (kinds.Reading 1)
    ∷ Answered 2 (answer (Export d) (says.Lines element))
    ∷ Ended 2
    ∷ []

-- ---- the clauses

in_order : AtEach CallOrderAt (past_of journal)
in_order = refl ⊳ refl ⊳ refl ⊳ refl ⊳ refl ⊳ refl ⊳ refl ⊳ refl ⊳ refl ⊳ refl ⊳ tt

locks : AtEach LocksAt (past_of journal)
locks =
    (tt, tt) ⊳ (tt, tt) ⊳ (tt, tt) ⊳ (tt, tt) ⊳ (tt, tt) ⊳ (tt, tt) ⊳ (tt, tt)
    ⊳ (((refl, tt), λ passes other. (free_granted exclusive _, tt)), refl)
    ⊳ (record { updating = refl; call = Load d element; needs_are = refl; some = omega arith; free = (free_begun _, tt) }, tt)
    ⊳ (tt, tt) ⊳ tt

serial : AtEach (SerialAt B) (past_of journal)
serial = tt ⊳ tt ⊳ tt ⊳ tt ⊳ tt ⊳ (refl, ((load_says, tt), tt)) ⊳ tt ⊳ tt ⊳ tt ⊳ tt ⊳ tt

snapshots : AtEach (SnapshotsAt B) (past_of journal)
snapshots = tt ⊳ (export_behind, tt) ⊳ refl ⊳ tt ⊳ (export_before, tt) ⊳ tt ⊳ refl ⊳ tt ⊳ tt ⊳ tt ⊳ tt

idle : OthersIdle (past_of journal)
idle s first second = rw (first, second) refl

unfinished : IsUnfinished B (past_of journal)
unfinished = record {
  each = tt ⊳ tt ⊳ tt ⊳ tt ⊳ tt ⊳ tt ⊳ tt ⊳ tt ⊳ tt ⊳ tt ⊳ tt;
  at_end = all_run (past_of journal) idle tt tt;
}

refusals : IsOrdered P (past_of journal)
refusals = record {
  by_state = refl ⊳ inr refl ⊳ refl ⊳ refl ⊳ inr refl ⊳ refl ⊳ refl ⊳ inr refl ⊳ tt ⊳ refl ⊳ tt;
  by_text = tt ⊳ record { what = Ok (Export d); parsed = export_is; answers = tt } ⊳ tt ⊳ tt ⊳ record { what = Ok (Export d); parsed = export_is; answers = tt }
      ⊳ tt ⊳ tt ⊳ record { what = Ok (Load d element); parsed = load_is; answers = tt } ⊳ tt ⊳ tt ⊳ tt;
}

settling : AtEach (SettlingAt B.numbers) (past_of journal)
settling =
    (tt, tt) ⊳ (tt, tt) ⊳ (tt, tt) ⊳ (tt, tt) ⊳ (tt, tt)
    ⊳ ((refl, λ none. omega (arith, none)), tt)
    ⊳ (tt, tt) ⊳ (tt, tt) ⊳ (tt, tt) ⊳ (tt, tt) ⊳ tt

marks : AtEach MarksAt (past_of journal)
marks = (tt, tt) ⊳ (tt, tt) ⊳ (tt, tt) ⊳ (tt, tt) ⊳ (tt, tt) ⊳ (tt, tt) ⊳ (tt, tt) ⊳ (tt, tt) ⊳ (tt, tt) ⊳ (tt, tt) ⊳ tt

nothing_closed : (s : ℕ) → (1 == s) ≡ false → (2 == s) ≡ false → closed_of s (past_of journal) ≡ length (calls_of P s)
nothing_closed zero first second = refl
nothing_closed (suc zero) first second = absurd (true≢false first)
nothing_closed (suc (suc zero)) first second = absurd (true≢false second)
nothing_closed (suc (suc (suc s))) first second = rw (first, second) refl

closes : IsClosed P (past_of journal)
closes = record {
  each =
      (record { what = Ok Commit; parsed = commit_is; closes = refl }, refl)
      ⊳ (record { what = Ok (Export d); parsed = export_is; closes = inl refl }, refl)
      ⊳ (record { what = Ok BeginRead; parsed = begin_read_is; closes = refl }, refl)
      ⊳ (record { what = Ok Commit; parsed = commit_is; closes = refl }, refl)
      ⊳ (record { what = Ok (Export d); parsed = export_is; closes = inl refl }, refl)
      ⊳ (record { what = Ok Commit; parsed = commit_is; closes = refl }, refl)
      ⊳ (record { what = Ok BeginRead; parsed = begin_read_is; closes = refl }, refl)
      ⊳ (record { what = Ok (Load d element); parsed = load_is; closes = inl refl }, refl)
      ⊳ (record { call = Load d element; parsed = load_is; needs_are = refl }, refl)
      ⊳ (record { what = Ok Begin; parsed = begin_is; closes = refl }, refl)
      ⊳ tt;
  in_order = in_order;
  at_end = all_end P (past_of journal) idle nothing_closed (refl, refl) (refl, refl);
}

-- the journal is a legal history of the scripts
pub is_legal : Legal journal B P
is_legal = record {
  closes = closes;
  locks = locks;
  serial = serial;
  snapshots = snapshots;
  unfinished = unfinished;
  refusals = refusals;
  settling =
      settling;
  marks = marks;
}

-- ---- and it is so with each of its answers

abbrev loaded : List Event
loaded = Began 1 kinds.Updating ∷ Granted 1 exclusive ∷ Answered 1 (answer (Load d element) says.Done) ∷ []

abbrev read : List Event
read = loaded ++ Began 2 (kinds.Reading 0) ∷ Committed 1 1 ∷ Answered 2 (answer (Export d) (says.Error codes_of.FODC0002)) ∷ []

abbrev read_again : List Event
read_again = read ++ Ended 2 ∷ Began 2 (kinds.Reading 1) ∷ Answered 2 (answer (Export d) (says.Lines element)) ∷ []

none_loaded : OthersIdle (past_of loaded)
none_loaded s first second = rw (first) refl

none_read : OthersIdle (past_of read)
none_read s first second = rw (first, second) refl

none_read_again : OthersIdle (past_of read_again)
none_read_again s first second = rw (first, second) refl

-- the journal is legal so far where the document has been loaded
pub so_far_loaded : SoFar B loaded
so_far_loaded = record {
  in_order = in_order.1.1.1.1.1.1.1;
  locks = locks.1.1.1.1.1.1.1;
  serial = serial.1.1.1.1.1.1.1;
  snapshots = snapshots.1.1.1.1.1.1.1;
  unfinished = record { each = unfinished.each.1.1.1.1.1.1.1; at_end = all_run (past_of loaded) none_loaded ((load_says, tt), tt) tt };
  refusals = refusals.by_state.1.1.1.1.1.1.1;
  settling = settling.1.1.1.1.1.1.1;
  marks = marks.1.1.1.1.1.1.1;
}

-- the journal is legal so far where the reader was answered first
pub so_far_read : SoFar B read
so_far_read = record {
  in_order = in_order.1.1.1.1;
  locks = locks.1.1.1.1;
  serial = serial.1.1.1.1;
  snapshots = snapshots.1.1.1.1;
  unfinished = record { each = unfinished.each.1.1.1.1; at_end = all_run (past_of read) none_read tt tt };
  refusals = refusals.by_state.1.1.1.1;
  settling = settling.1.1.1.1;
  marks = marks.1.1.1.1;
}

-- the journal is legal so far where the reader was answered again
pub so_far_read_again : SoFar B read_again
so_far_read_again = record {
  in_order = in_order.1;
  locks = locks.1;
  serial = serial.1;
  snapshots = snapshots.1;
  unfinished = record { each = unfinished.each.1; at_end = all_run (past_of read_again) none_read_again tt tt };
  refusals = refusals.by_state.1;
  settling = settling.1;
  marks = marks.1;
}
