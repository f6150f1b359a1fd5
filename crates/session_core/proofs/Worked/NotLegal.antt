-- Journals that differ from a legal one in just what a clause forbids. The scripts may be any: the clause alone
-- refuses them. Three are refused by a clause that stands by itself, without the others and without a base.
use Rattle.std.proofs.Common.{◌≡◌, ◌≤◌, Bool, true, false, true≢false, [], ◌∷◌, Option, Some, is_some, IsTrue, refl, sym, ap, ◌∙◌, arith}
use mathlib.Core.Logic.{◌⊎◌, inl, inr}
use Rattle.xq_ast.specs.declared.call.Call.{Call}
use Rattle.xq_ast.specs.declared.call.Call.TheVariants.{Commit, Rollback, Checkpoint, Load, Export}
use Rattle.xq_ast.specs.declared.code.Code.TheVariants as codes_of
use Rattle.xq_ast.specs.declared.code.Mark.{Mark}
use Rattle.xq_ast.specs.declared.code.SpentKind.TheVariants as spent
use Rattle.xml_model.specs.Forest.{no_documents}
use Rattle.session_core.specs.declared.history.event.BeginKind.TheVariants as kinds
use Rattle.session_core.specs.declared.history.event.Reply.{Reply}
use Rattle.session_core.specs.declared.history.event.State.{State}
use Rattle.session_core.specs.declared.history.event.State.TheVariants.{Idle}
use Rattle.session_core.specs.declared.history.event.Says.{Says}
use Rattle.session_core.specs.declared.history.event.Says.TheVariants as says
use Rattle.session_core.specs.declared.history.event.Event.{Event}
use Rattle.session_core.specs.declared.history.event.Event.TheVariants.{Began, Granted, Refused, Answered, Committed, RolledBack, Doubt, Settled}
use Rattle.session_core.specs.History.{past_of, AtEach}
use Rattle.session_core.specs.History.CallOrder.{CallOrderAt}
use Rattle.session_core.specs.History.Refusals.{RefusalsAt, is_spent}
use Rattle.session_core.specs.History.Transactions.{Base}
use Rattle.session_core.specs.History.Closes.{Scripts}
use Rattle.session_core.specs.History.Legal.{Legal}
use Rattle.session_core.proofs.Worked.{B, answer, first_failure}
use Rattle.session_core.proofs.Worked.Calls.{d, element, begin_read, commit, shared, exclusive}
use Rattle.session_core.proofs.Worked.Statements.{export_before, export_behind}

abbrev is_lines : Says → Bool
is_lines (says.Lines all) = true
is_lines _ = false

abbrev is_failed : Says → Bool
is_failed (says.Error (codes_of.Failed mark)) = true
is_failed _ = false

abbrev is_granted : Option Event → Bool
is_granted (Some (Granted s asked)) = true
is_granted _ = false

abbrev is_idle : State → Bool
is_idle Idle = true
is_idle _ = false

-- `closes`: the last call is not closed
open_call : Legal (
    Began 1 (kinds.Reading 0)
    ∷ []) B ((begin_read ∷ commit ∷ []) ∷ []) → ⊥
open_call l = let closed = (l.closes.at_end 1).0 in omega (arith, closed)

-- `serial`: a commit number is left out
number_skipped : (P : Scripts) → Legal (
    Began 1 kinds.Updating
    ∷ Committed 1 2
    ∷ []) B P → ⊥
number_skipped P l = let number = l.serial.0.0 in omega (arith, number)

-- `serial`: the committed transaction was answered from other documents
other_reply : (P : Scripts) → Legal (
    Began 1 kinds.Updating
    ∷ Granted 1 shared
    ∷ Answered 1 (answer (Export d) (says.Lines element))
    ∷ Committed 1 1
    ∷ []) B P → ⊥
other_reply P l = true≢false (ap is_lines (l.serial.0.1.0.0 ∙ sym export_before))

-- `unfinished`: and so was one that is rolled back
other_reply_before_rollback : (P : Scripts) → Legal (
    Began 1 kinds.Updating
    ∷ Granted 1 shared
    ∷ Answered 1 (answer (Export d) (says.Lines element))
    ∷ RolledBack 1
    ∷ []) B P → ⊥
other_reply_before_rollback P l = true≢false (ap is_lines (l.unfinished.each.0.0.0 ∙ sym export_before))

-- `snapshots`: a reader at commit 1 answers from commit 0
older_answer : (P : Scripts) → Legal (
    Began 1 kinds.Updating
    ∷ Granted 1 exclusive
    ∷ Answered 1 (answer (Load d element) says.Done)
    ∷ Committed 1 1
    ∷ Began 2 (kinds.Reading 1)
    ∷ Answered 2 (answer (Export d) (says.Error codes_of.FODC0002))
    ∷ []) B P → ⊥
older_answer P l = true≢false (ap is_lines (export_behind ∙ sym l.snapshots.0.0))

-- `snapshots`: a reader begins at an older commit
older_snapshot : (P : Scripts) → Legal (
    Began 1 kinds.Updating
    ∷ Committed 1 1
    ∷ Began 2 (kinds.Reading 0)
    ∷ []) B P → ⊥
older_snapshot P l = let number = l.snapshots.0 in omega (arith, number)

-- `locks`: a lock is granted against a holder
granted_against_holder : (P : Scripts) → Legal (
    Began 1 kinds.Updating
    ∷ Granted 1 exclusive
    ∷ Began 2 kinds.Updating
    ∷ Granted 2 shared
    ∷ []) B P → ⊥
granted_against_holder P l = true≢false (l.locks.0.0.free.0 1 (λ same. omega (arith, same)))

-- `locks`: a refusal names the session itself
refused_by_itself : (P : Scripts) → Legal (
    Began 1 kinds.Updating
    ∷ Granted 1 shared
    ∷ Answered 1 (answer (Export d) (says.Error codes_of.FODC0002))
    ∷ Refused 1 d 1 exclusive
    ∷ []) B P → ⊥
refused_by_itself P l = l.locks.0.0.other refl

-- `locks`: a refusal names a holder that has ended
refused_by_ended : (P : Scripts) → Legal (
    Began 1 kinds.Updating
    ∷ Granted 1 exclusive
    ∷ Answered 1 (answer (Load d element) says.Done)
    ∷ RolledBack 1
    ∷ Began 2 kinds.Updating
    ∷ Refused 2 d 1 exclusive
    ∷ []) B P → ⊥
refused_by_ended P l = true≢false (sym l.locks.0.0.holds)

-- `refusals`: a transaction begins inside a transaction
begun_twice : (P : Scripts) → Legal (
    Began 1 kinds.Updating
    ∷ Began 1 kinds.Updating
    ∷ []) B P → ⊥
begun_twice P l = true≢false (sym (ap is_idle l.refusals.by_state.0))

-- `settling`: another commit comes while one is in doubt
commit_beside_doubt : (P : Scripts) → Legal (
    Began 1 kinds.Updating
    ∷ Doubt 1 1 (record { before = 0; after = 1 })
    ∷ Began 2 kinds.Updating
    ∷ Committed 2 1
    ∷ []) B P → ⊥
commit_beside_doubt P l = true≢false (ap is_some l.settling.0.0.0)

-- `marks`: the second failure begins before the first has ended
marks_overlap : (P : Scripts) → Legal (
    Answered 1 (answer Checkpoint (says.Error (codes_of.Failed (record { before = 0; after = 2 }))))
    ∷ Answered 1 (answer Checkpoint (says.Error (codes_of.Failed (record { before = 1; after = 3 }))))
    ∷ []) B P → ⊥
marks_overlap P l = let in_order : 2 ≤ 1 = l.marks.0.0.1 in omega (arith, in_order)

neither : {A : Type 0} → (IsTrue false × A) ⊎ IsTrue false → ⊥
neither (inl is) = true≢false (sym is.0)
neither (inr is) = true≢false (sym is)

-- `marks`: the device fails under a ROLLBACK
failed_rollback : (P : Scripts) → Legal (
    Began 1 kinds.Updating
    ∷ Answered 1 (answer Rollback (says.Error (codes_of.Failed first_failure)))
    ∷ []) B P → ⊥
failed_rollback P l = neither l.marks.0.1

-- `settling`: no commit number is left, where numbers are left
spent_with_numbers_left : (P : Scripts) → Legal (
    Began 1 kinds.Updating
    ∷ Answered 1 (answer Commit (says.Error (codes_of.Spent spent.Commit 18446744073709551615)))
    ∷ []) B P → ⊥
spent_with_numbers_left P l = let none_left : 18446744073709551615 ≤ 0 = l.settling.0.0.1.1 in omega (arith, none_left)

-- `settling`: a page is damaged
damaged_page : (P : Scripts) → Legal (
    Began 1 (kinds.Reading 0)
    ∷ Answered 1 (answer (Export d) (says.Error (codes_of.Damaged 0 0 0)))
    ∷ []) B P → ⊥
damaged_page P l = l.settling.0.0

-- `locks`: a call ran without its grant
ran_without_grant : (P : Scripts) → Legal (
    Began 1 kinds.Updating
    ∷ Answered 1 (answer (Export d) (says.Error codes_of.FODC0002))
    ∷ []) B P → ⊥
ran_without_grant P l = true≢false (sym (ap is_granted l.locks.0.0.0.0))

-- `locks`: a call is answered, and not refused, while another session holds its name exclusively
answered_beside_holder : (P : Scripts) → Legal (
    Began 1 kinds.Updating
    ∷ Granted 1 exclusive
    ∷ Answered 1 (answer (Load d element) says.Done)
    ∷ Began 2 kinds.Updating
    ∷ Answered 2 (answer (Export d) (says.Error (codes_of.Failed first_failure)))
    ∷ []) B P → ⊥
answered_beside_holder P l = true≢false ((l.locks.0.0.1 refl (λ want. true≢false (ap is_failed want))).0 1 (λ same. omega (arith, same)))

-- `refusals` alone: a number of the log is at its last value for a COMMIT outside of a transaction
spent_outside : AtEach RefusalsAt (past_of (
    Answered 1 (answer Commit (says.Error (codes_of.Spent spent.Log 9223372036854775807)))
    ∷ [])) → ⊥
spent_outside refusals = by_order refusals.0
  where
    by_order : IsTrue false ⊎ (says.Error (codes_of.Spent spent.Log 9223372036854775807) ≡ says.Error codes_of.NoTransaction) → ⊥
    by_order (inl is) = true≢false (sym is)
    by_order (inr is) = true≢false (ap is_spent is)

spent_outside_is_not_legal : (P : Scripts) → Legal (
    Answered 1 (answer Commit (says.Error (codes_of.Spent spent.Log 9223372036854775807)))
    ∷ []) B P → ⊥
spent_outside_is_not_legal P l = spent_outside l.refusals.by_state

-- `closes` alone, by the order of a call's events: a call settles twice
settled_twice : AtEach CallOrderAt (past_of (
    Began 1 kinds.Updating
    ∷ Doubt 1 1 first_failure
    ∷ Settled 1 1 false
    ∷ Settled 1 1 false
    ∷ [])) → ⊥
settled_twice in_order = true≢false (sym in_order.0)

settled_twice_is_not_legal : (P : Scripts) → Legal (
    Began 1 kinds.Updating
    ∷ Doubt 1 1 first_failure
    ∷ Settled 1 1 false
    ∷ Settled 1 1 false
    ∷ []) B P → ⊥
settled_twice_is_not_legal P l = settled_twice l.closes.in_order

-- and locks are granted twice for one call
granted_twice : AtEach CallOrderAt (past_of (
    Began 1 kinds.Updating
    ∷ Granted 1 shared
    ∷ Granted 1 shared
    ∷ [])) → ⊥
granted_twice in_order = true≢false (sym in_order.0)

granted_twice_is_not_legal : (P : Scripts) → Legal (
    Began 1 kinds.Updating
    ∷ Granted 1 shared
    ∷ Granted 1 shared
    ∷ []) B P → ⊥
granted_twice_is_not_legal P l = granted_twice l.closes.in_order
