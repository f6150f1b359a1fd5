-- Right answers whose cause is in no device.
use Rattle.std.proofs.Common.{◌≡◌, ℕ, true, false, not, true≢false, List, [], Option, Some, IsTrue, refl, sym, ap, ◌∙◌}
use Rattle.xq_ast.specs.declared.call.Call.{Call}
use Rattle.xq_ast.specs.declared.code.Code.{Code}
use Rattle.xq_ast.specs.declared.code.Code.TheVariants as codes
use Rattle.xml_model.specs.Statement.{is_statement, stmt}
use Rattle.session_core.specs.declared.history.event.State.{State}
use Rattle.session_core.specs.declared.history.event.Says.{Says}
use Rattle.session_core.specs.declared.history.event.Says.TheVariants as says
use Rattle.session_core.specs.declared.history.event.Event.{Event}
use Rattle.session_core.specs.History.Transactions.{Base, ran_by, says_of}
use Rattle.session_core.specs.History.States.{state}
use Rattle.session_core.specs.History.Refusals.{refused_in, work_of, is_state_refusal}
use Rattle.session_core.specs.History.Answering as answers
use Rattle.session_core.specs.History.Answering.{AnswersInOrder, IsRightAnswer, is_told, is_damaged, is_of_device, forest_for}
use Rattle.session_core.proofs.Covering.{none_ran}
use Rattle.session_core.proofs.Answering.{stmt_told, right_unrun, right_lacking, right_ran, state_unrun, refused_code}
use Rattle.session_run.specs.Calls.{HasPlainLines, IsAnswerInMemory}

-- an answer whose cause is in no device says nothing of damage
pub undamaged : (answer : Says) → is_of_device answer ≡ false → is_damaged answer ≡ false
undamaged (says.Error (codes.Damaged commit ordinal page)) is = absurd (true≢false is)
undamaged answer is = refl

-- what the documents tell, and what the state refuses, has no cause in a device
told_here : (answer : Says) → is_told answer ≡ true → is_of_device answer ≡ false
told_here (says.Error code) is = by_code code is
  where
    by_code : (code : Code) → is_told (says.Error code) ≡ true → is_of_device (says.Error code) ≡ false
    by_code (codes.Failed mark) is = absurd (true≢false (sym is))
    by_code (codes.Spent kind number) is = absurd (true≢false (sym is))
    by_code (codes.Damaged commit ordinal page) is = absurd (true≢false (sym is))
    by_code code is = refl
told_here answer is = refl

refused_here : (code : Code) → is_state_refusal code ≡ true → is_of_device (says.Error code) ≡ false
refused_here (codes.Failed mark) is = absurd (true≢false (sym is))
refused_here (codes.Spent kind number) is = absurd (true≢false (sym is))
refused_here (codes.Damaged commit ordinal page) is = absurd (true≢false (sym is))
refused_here code is = refl

module _ (B : Base) (s : ℕ) (before : List Event) where
  -- any call may be answered by want of memory
  pub lacking : (call : Option Call) → IsAnswerInMemory B s before call (says.Error codes.NoMemory)
  lacking call = (right_lacking B s before call, refl, tt)

  -- an answer to a call that did not run is right where it is in order, its cause is in no device and its lines are plain
  pub unrun_here : (call : Option Call) (answer : Says) → AnswersInOrder B.numbers s before call answer → ran_by call answer ≡ [] → is_of_device answer ≡ false
      → HasPlainLines answer → IsAnswerInMemory B s before call answer
  unrun_here call answer order none here plain = (right_unrun B s before call answer order none, here, plain)

  -- what the state refuses is rightly answered by its code
  pub refused_right : (call : Call) (code : Code) → refused_in (state s before) (work_of call) ≡ Some code
      → IsAnswerInMemory B s before (Some call) (says.Error code)
  refused_right call code is = let by_state = refused_code (state s before) (work_of call) code is in
      unrun_here (Some call) (says.Error code) (answers.AnswersInOrder.refuses_call (record { code = code; refused = is; says_so = refl }))
      (none_ran (Some call) (says.Error code) (ap not (state_unrun code by_state))) (refused_here code by_state) tt

  -- a statement that ran, on the documents of its session's state
  pub ran_right : (x : State) (call : Call) (answer : Says) → state s before ≡ x → IsTrue (is_statement call)
      → (is_told answer ≡ true → AnswersInOrder B.numbers s before (Some call) answer)
      → answer ≡ says_of (stmt (forest_for B s before x) call).says → HasPlainLines answer → IsAnswerInMemory B s before (Some call) answer
  ran_right x call answer is statement order so plain =
      (right_ran B s before x call answer is statement order so, told_here answer (ap is_told so ∙ stmt_told (forest_for B s before x) call), plain)
