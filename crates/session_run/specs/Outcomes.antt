-- What the event that closes a call says.
use Rattle.std.specs.Prelude.{◌≡◌, Bool, true, false, Option, None, Some}
use Rattle.session_core.specs.declared.history.event.Says.{Says}
use Rattle.session_core.specs.declared.history.event.Says.TheVariants as says
use Rattle.session_core.specs.declared.history.event.Event.{Event}
use Rattle.session_core.specs.declared.history.event.Event.TheVariants as events
use Rattle.session_core.specs.Keeping.Kept.{Kept, with_event}
use Rattle.session_run.specs.declared.outcome.Outcome.{Outcome}
use Rattle.session_run.specs.declared.outcome.Outcome.TheVariants.{Done, Lines, Error, Began, LockHeld, Committed, Ended, RolledBack}

-- an answer is Done, lines or an error
abbrev pub is_answer : Says → Bool
is_answer says.Done = true
is_answer (says.Lines all) = true
is_answer (says.Error code) = true
is_answer _ = false

-- what an answer says, without its lines
abbrev pub answer_outcome : Says → Option Outcome
answer_outcome says.Done = Some Done
answer_outcome (says.Lines all) = Some Lines
answer_outcome (says.Error code) = Some (Error code)
answer_outcome _ = None

-- what a closing event says; where no device takes part, no call is closed by a commit in doubt
abbrev pub outcome_of : Event → Option Outcome
outcome_of (events.Began s kind) = Some (Began kind)
outcome_of (events.Refused s name holder asked) = Some (LockHeld name holder)
outcome_of (events.Answered s reply) = answer_outcome reply.says
outcome_of (events.Committed s n) = Some (Committed n)
outcome_of (events.Ended s) = Some Ended
outcome_of (events.RolledBack s) = Some RolledBack
outcome_of _ = None

-- The newest event is one that says this.
pub record EndsWith (outcome : Outcome) (k : Kept) : Type 0 where
  pub event : Event
  pub before : Kept
  pub newest : k ≡ with_event event before
  pub says : outcome_of event ≡ Some outcome
