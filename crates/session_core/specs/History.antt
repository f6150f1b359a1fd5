-- Events of a journal. All that is said of a place in a journal is said of the events before it, the newest first.
pub mod CallOrder
pub mod Transactions
pub mod States
pub mod Locks
pub mod Replies
pub mod Refusals
pub mod Settling
pub mod Marks
pub mod Closes
pub mod Legal
pub mod Steps
pub mod Unsettled
pub mod Answering
use Rattle.std.specs.Prelude.{ℕ, ◌==◌, Bool, true, false, if◌then◌else◌, List, [], ◌∷◌, reverse, Option, Some, None}
use Rattle.session_core.specs.declared.history.event.Event.{Event}
use Rattle.session_core.specs.declared.history.event.Event.TheVariants.{Began, Granted, Refused, Answered, Committed, Ended, RolledBack, Doubt, Settled, Left}

-- a whole journal, the newest event first
abbrev pub past_of : List Event → List Event
past_of journal = reverse journal

-- the session that added the event
abbrev pub session_of : Event → ℕ
session_of (Began s kind) = s
session_of (Granted s needs) = s
session_of (Refused s name holder needs) = s
session_of (Answered s reply) = s
session_of (Committed s n) = s
session_of (Ended s) = s
session_of (RolledBack s) = s
session_of (Doubt s n mark) = s
session_of (Settled by s stands) = by
session_of (Left s) = s

-- the event closes a call
abbrev pub is_closing : Event → Bool
is_closing (Granted s needs) = false
is_closing (Settled by s stands) = false
is_closing (Left s) = false
is_closing _ = true

-- the newest event that the session added
abbrev pub last_of : ℕ → List Event → Option Event
last_of s [] = None
last_of s (e ∷ past) = if session_of e == s then Some e else last_of s past

-- a fact of each event and the events before it
abbrev pub AtEach : (Event → List Event → Type 0) → List Event → Type 0
AtEach Fact [] = Unit {0}
AtEach Fact (e ∷ past) = Fact e past × AtEach Fact past
