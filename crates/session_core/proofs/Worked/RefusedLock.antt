-- A worked history: a lock on a name whose document is not there keeps another session from making it, and that
-- session leaves.
use Rattle.std.proofs.Common.{◌≡◌, ℕ, zero, suc, ◌<◌, ◌==◌, false, true≢false, List, [], ◌∷◌, length, None, Some, Ok, refl, sym, ap, subst, arith}
use mathlib.Core.Logic.{inl, inr}
use Rattle.xq_ast.specs.declared.call.Call.TheVariants.{Begin, Commit, Create, Export}
use Rattle.xq_ast.specs.declared.code.Code.TheVariants as codes_of
use Rattle.xq_ast.specs.declared.need.LockMode.TheVariants.{X}
use Rattle.session_core.specs.declared.history.event.BeginKind.TheVariants as kinds
use Rattle.session_core.specs.declared.history.event.Says.TheVariants as says
use Rattle.session_core.specs.declared.history.event.Event.{Event}
use Rattle.session_core.specs.declared.history.event.Event.TheVariants.{Began, Granted, Refused, Answered, Committed, Left}
use Rattle.session_core.specs.History.{past_of, AtEach}
use Rattle.session_core.specs.History.CallOrder.{CallOrderAt}
use Rattle.session_core.specs.History.Transactions.{Base, updating, open_of, newest}
use Rattle.session_core.specs.History.States.{state, state_with, is_open, blocks}
use Rattle.session_core.specs.History.Locks.{LocksAt}
use Rattle.session_core.specs.History.Replies.{SerialAt, SnapshotsAt, RunsNext, AllInTurn}
use Rattle.session_core.specs.History.Settling.{SettlingAt}
use Rattle.session_core.specs.History.Marks.{MarksAt}
use Rattle.session_core.specs.History.Closes.{Scripts, ClosesAtEnd, calls_of, closed_of}
use Rattle.session_core.specs.History.Legal.{Legal, IsClosed, IsUnfinished, IsOrdered}
use Rattle.session_core.proofs.Sessions.{◌⊳◌}
use Rattle.session_core.proofs.Worked.{B, answer, granted, free_begun, free_granted, OthersIdle, all_run, all_end}
use Rattle.session_core.proofs.Worked.Calls.{d, begin, commit, create, export, begin_is, commit_is, create_is, export_is, shared, exclusive}
use Rattle.session_core.proofs.Worked.Statements.{export_before}

abbrev P : Scripts
P = (begin ∷ export ∷ commit ∷ []) ∷ (begin ∷ create ∷ []) ∷ []

-- the second session's lock is refused for the first one's, it leaves, and the first one commits
abbrev pub journal : List Event
journal =
    Began 1 kinds.Updating
    ∷ Granted 1 shared
    ∷ Answered 1 (answer (Export d) (says.Error codes_of.FODC0002))
    ∷ Began 2 kinds.Updating
    ∷ Refused 2 d 1 exclusive
    ∷ Left 2
    ∷ Committed 1 1
    ∷ []

abbrev second_begun : List Event
second_begun = Began 2 kinds.Updating ∷ Answered 1 (answer (Export d) (says.Error codes_of.FODC0002)) ∷ granted shared

first_is_least : (t : ℕ) → t < 1 → (t ≡ 2 → ⊥) → blocks t (record { name = d; mode = X }) second_begun ≡ false
first_is_least zero below other = refl
first_is_least (suc t) below other = absurd (omega (arith, below))

in_order : AtEach CallOrderAt (past_of journal)
in_order = refl ⊳ refl ⊳ refl ⊳ refl ⊳ refl ⊳ refl ⊳ refl ⊳ tt

locks : AtEach LocksAt (past_of journal)
locks =
    (tt, tt) ⊳ (tt, tt)
    ⊳ (
      record {
        updating = refl;
        call = Create d;
        needs_are = refl;
        passes = refl;
        before = [];
        blocked = record { name = d; mode = X };
        behind =
            [];
        asked_are = refl;
        before_free = tt;
        name_is = refl;
        other = λ same. omega (arith, same);
        holds = refl;
        least = first_is_least;
      },
      tt,
    )
    ⊳ (tt, tt)
    ⊳ (((refl, tt), λ passes other. (free_granted shared _, tt)), refl)
    ⊳ (record { updating = refl; call = Export d; needs_are = refl; some = omega arith; free = (free_begun _, tt) }, tt)
    ⊳ (tt, tt) ⊳ tt

serial : AtEach (SerialAt B) (past_of journal)
serial = (refl, ((export_before, tt), tt)) ⊳ tt ⊳ tt ⊳ tt ⊳ tt ⊳ tt ⊳ tt ⊳ tt

snapshots : AtEach (SnapshotsAt B) (past_of journal)
snapshots = tt ⊳ tt ⊳ tt ⊳ tt ⊳ tt ⊳ tt ⊳ tt ⊳ tt

idle : OthersIdle (past_of journal)
idle s first second = rw (first, second) refl

nothing_closed : (s : ℕ) → (1 == s) ≡ false → (2 == s) ≡ false → closed_of s (past_of journal) ≡ length (calls_of P s)
nothing_closed zero first second = refl
nothing_closed (suc zero) first second = absurd (true≢false first)
nothing_closed (suc (suc zero)) first second = absurd (true≢false second)
nothing_closed (suc (suc (suc s))) first second = rw (first, second) refl

ends : ClosesAtEnd P (past_of journal)
ends = all_end P (past_of journal) idle nothing_closed (refl, refl) (refl, refl)

unfinished : IsUnfinished B (past_of journal)
unfinished = record {
  each = tt ⊳ (tt, tt) ⊳ tt ⊳ tt ⊳ tt ⊳ tt ⊳ tt ⊳ tt;
  at_end = all_run (past_of journal) idle tt tt;
}

refusals : IsOrdered P (past_of journal)
refusals = record {
  by_state = refl ⊳ refl ⊳ refl ⊳ refl ⊳ inr refl ⊳ tt ⊳ refl ⊳ tt;
  by_text = tt ⊳ tt ⊳ tt ⊳ tt ⊳ record { what = Ok (Export d); parsed = export_is; answers = tt } ⊳ tt ⊳ tt ⊳ tt;
}

settling : AtEach (SettlingAt B.numbers) (past_of journal)
settling = ((refl, λ none. omega (arith, none)), tt) ⊳ (tt, tt) ⊳ (tt, tt) ⊳ (tt, tt) ⊳ (tt, tt) ⊳ (tt, tt) ⊳ (tt, tt) ⊳ tt

marks : AtEach MarksAt (past_of journal)
marks = (tt, tt) ⊳ (tt, tt) ⊳ (tt, tt) ⊳ (tt, tt) ⊳ (tt, tt) ⊳ (tt, tt) ⊳ (tt, tt) ⊳ tt

closes : IsClosed P (past_of journal)
closes = record {
  each =
      (record { what = Ok Commit; parsed = commit_is; closes = refl }, refl)
      ⊳ ((refl, refl), refl)
      ⊳ (record { what = Ok (Create d); parsed = create_is; closes = refl }, refl)
      ⊳ (record { what = Ok Begin; parsed = begin_is; closes = refl }, refl)
      ⊳ (record { what = Ok (Export d); parsed = export_is; closes = inl refl }, refl)
      ⊳ (record { call = Export d; parsed = export_is; needs_are = refl }, refl)
      ⊳ (record { what = Ok Begin; parsed = begin_is; closes = refl }, refl)
      ⊳ tt;
  in_order = in_order;
  at_end = ends;
}

-- the journal is a legal history of the scripts
pub is_legal : Legal journal B P
is_legal = record {
  closes = closes;
  locks = locks;
  serial = serial;
  snapshots = snapshots;
  unfinished = unfinished;
  refusals = refusals;
  settling =
      settling;
  marks = marks;
}
