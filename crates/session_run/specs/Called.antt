-- What one call of a session adds to the journal, and what it leaves to the other sessions.
use Rattle.std.specs.Prelude.{◌≡◌, ℕ, ◌<◌, List, ◌++◌, length, true, ◌⊎◌}
use Rattle.xq_ast.specs.declared.call.Call.{Call}
use Rattle.xq_ast.specs.declared.call.CallText.{CallText}
use Rattle.xq_ast.specs.declared.need.Need.{Need}
use Rattle.xml_model.specs.Needs.{needs}
use Rattle.session_core.specs.declared.history.event.Event.{Event}
use Rattle.session_core.specs.declared.history.event.Event.TheVariants.{Granted}
use Rattle.session_core.specs.History.{session_of, is_closing, last_of}
use Rattle.session_core.specs.History.Transactions.{open_of}
use Rattle.session_core.specs.History.Closes.{ClosesCall, NeedsThese}
use Rattle.session_core.specs.Keeping.Kept.{Kept, with_event, past}
use Rattle.session_run.specs.Calls.{TakesNoDevice, AreOfCall}
use Rattle.xml_model.specs.Changes.{ChangeMap}
use Rattle.session_run.specs.Tied.{IsTied}

-- the journal with these events at its end, over the same base
abbrev pub with_events : List Event → Kept → Kept
with_events events k = record { base = k.base; journal = k.journal ++ events }

-- The session's call of this text is closed: its events are added.
pub record IsCalled (s : ℕ) (text : CallText) (old new : Kept) : Type 0 where
  pub events : List Event
  pub grown : new ≡ with_events events old
  pub of_call : AreOfCall old.base s text (past old) events

-- locks were granted for the text, and nothing more is added
pub record IsGrantedAlone (s : ℕ) (text : CallText) (old new : Kept) : Type 0 where
  pub asked : List Need
  pub some : 0 < length asked
  pub needed : NeedsThese asked text
  pub grown : new ≡ with_event (Granted s asked) old

-- The call is not closed: all is as before, or the grant of its locks came.
abbrev pub IsUnclosed : ℕ → CallText → Kept → Kept → Type 0
IsUnclosed s text old new = (new ≡ old) ⊎ IsGrantedAlone s text old new

-- Another session is where it was: its transaction and its last event, and so its state; and its changes stay tied.
pub record IsUntouched (t : ℕ) (old new : Kept) : Type 0 where
  pub open_is : open_of t (past new) ≡ open_of t (past old)
  pub last_is : last_of t (past new) ≡ last_of t (past old)
  pub tied : (changes : ChangeMap) → IsTied old.base t changes (past old) → IsTied new.base t changes (past new)

-- ---- a call that was read

-- One event of the session is added, which closes the call and in which no device takes part.
pub record AddsClosing (s : ℕ) (call : Call) (old new : Kept) : Type 0 where
  pub event : Event
  pub of_session : session_of event ≡ s
  pub closing : is_closing event ≡ true
  pub closes : ClosesCall call event
  pub right : TakesNoDevice old.base event (past old)
  pub grown : new ≡ with_event event old

-- the journal after the grant of the call's locks
abbrev pub behind_grant : ℕ → Call → Kept → Kept
behind_grant s call old = with_event (Granted s (needs call)) old

-- The call needs locks, and is closed after their grant.
pub record ClosesGranted (s : ℕ) (call : Call) (old new : Kept) : Type 0 where
  pub some : 0 < length (needs call)
  pub closes : AddsClosing s call (behind_grant s call old) new

-- the call is closed at once, or after the grant of its locks
abbrev pub ClosesRead : ℕ → Call → Kept → Kept → Type 0
ClosesRead s call old new = AddsClosing s call old new ⊎ ClosesGranted s call old new

-- it is not closed
abbrev pub LeavesRead : ℕ → Call → Kept → Kept → Type 0
LeavesRead s call old new = (new ≡ old) ⊎ ((0 < length (needs call)) × (new ≡ behind_grant s call old))
