-- The events of one call of a session.
use Rattle.std.specs.Prelude.{◌≡◌, ℕ, ◌<◌, true, false, List, [], ◌∷◌, length, Option}
use Rattle.xq_ast.specs.declared.call.CallText.{CallText}
use Rattle.xq_ast.specs.declared.need.Need.{Need}
use Rattle.xml_model.specs.Pyx.{ArePlain}
use Rattle.session_core.specs.declared.history.event.Event.{Event}
use Rattle.session_core.specs.declared.history.event.Event.TheVariants.{Began, Granted, Refused, Answered, Committed, Ended, RolledBack, Doubt, Settled, Left}
use Rattle.session_core.specs.History.{session_of, is_closing}
use Rattle.session_core.specs.History.Transactions.{Base}
use Rattle.session_core.specs.History.States.{state}
use Rattle.session_core.specs.History.Closes.{ClosesBy, NeedsThese, IsAnswerTo}
use Rattle.session_core.specs.History.Answering.{IsRightAnswer, is_of_device}
use Rattle.session_core.specs.declared.history.event.Says.{Says}
use Rattle.session_core.specs.declared.history.event.Says.TheVariants as says
use Rattle.xq_ast.specs.declared.call.Call.{Call}

-- an answer is one to the text
abbrev pub AnswersText : CallText → Event → List Event → Type 0
AnswersText text (Answered s reply) past = IsAnswerTo text (state s past) reply.says
AnswersText text _ past = Unit {0}

-- no line of an answer has a newline
abbrev pub HasPlainLines : Says → Type 0
HasPlainLines (says.Lines all) = ArePlain all
HasPlainLines _ = Unit {0}

-- a right answer whose cause is in no device, and whose lines have no newlines
abbrev pub IsAnswerInMemory : Base → ℕ → List Event → Option Call → Says → Type 0
IsAnswerInMemory B s past call answer = IsRightAnswer B s past call answer × (is_of_device answer ≡ false) × HasPlainLines answer

-- an event in which no device takes part: an answer is such a one, and no commit comes into doubt or out of it
abbrev pub TakesNoDevice : Base → Event → List Event → Type 0
TakesNoDevice B (Answered s reply) past = IsAnswerInMemory B s past reply.call reply.says
TakesNoDevice B (Doubt s n mark) past = ⊥
TakesNoDevice B (Settled by s stands) past = ⊥
TakesNoDevice B (Began s kind) past = Unit {0}
TakesNoDevice B (Granted s asked) past = Unit {0}
TakesNoDevice B (Refused s name holder asked) past = Unit {0}
TakesNoDevice B (Committed s n) past = Unit {0}
TakesNoDevice B (Ended s) past = Unit {0}
TakesNoDevice B (RolledBack s) past = Unit {0}
TakesNoDevice B (Left s) past = Unit {0}

-- the session's event closes a call of this text
pub record ClosesText (B : Base) (s : ℕ) (text : CallText) (e : Event) (past : List Event) : Type 0 where
  pub of_session : session_of e ≡ s
  pub closing : is_closing e ≡ true
  pub closes : ClosesBy text e
  pub answers : AnswersText text e past
  pub right : TakesNoDevice B e past

-- the events of one call: what closes it, and before that the locks that it was granted, where it needs some
pub data AreOfCall (B : Base) (s : ℕ) (text : CallText) (past : List Event) : List Event → Type 0 where
  at_once : {e : Event} → ClosesText B s text e past → AreOfCall B s text past (e ∷ [])
  behind_grant : {asked : List Need} {e : Event} → 0 < length asked → NeedsThese asked text → ClosesText B s text e (Granted s asked ∷ past)
      → AreOfCall B s text past (Granted s asked ∷ e ∷ [])
