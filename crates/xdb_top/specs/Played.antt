-- What the journal of played scripts is: while they are played, when they are played whole, and when memory was wanting
-- before their end.
use Rattle.std.specs.Prelude.{◌≡◌, ℕ, true, false, List, ◌++◌, length}
use Rattle.xml_model.specs.Forest.{no_documents}
use Rattle.session_core.specs.declared.history.event.Event.{Event}
use Rattle.session_core.specs.History.{past_of, AtEach}
use Rattle.session_core.specs.History.Transactions.{Base}
use Rattle.session_core.specs.History.States.{state, is_open}
use Rattle.session_core.specs.History.Closes.{Scripts, calls_of, closed_of, has_left, ClosesAt, TextRefusalsAt}
use Rattle.session_core.specs.History.Legal.{SoFar, Legal}
use Rattle.session_run.specs.Calls.{TakesNoDevice}
use Rattle.script_text.specs.declared.scripts.session_calls.Script.{Script}
use Rattle.script_text.specs.JournalText.{ArePrinted}
use Rattle.xdb_top.specs.Turns.{LeavesAtOnce, FollowsAtOnce, IsOfNextTurn, IsBehindCall, turns_in, all_turns}

-- each event is for a call of its session, in order, and no device takes part in it; what closes a call comes directly
-- after the grant of its locks, or after what was settled for it; a session leaves only after its last call, and its transaction is then not open
pub record IsPlayed (B : Base) (P : Scripts) (past : List Event) : Type 0 where
  pub closes : AtEach (ClosesAt P) past
  pub texts : AtEach (TextRefusalsAt P) past
  pub right : AtEach (TakesNoDevice B) past
  pub at_once : AtEach FollowsAtOnce past
  pub leaves : AtEach LeavesAtOnce past
  pub stays : (s : ℕ) → has_left s past ≡ true → closed_of s past ≡ length (calls_of P s)
  pub ends : (s : ℕ) → closed_of s past ≡ length (calls_of P s) → is_open (state s past) ≡ false

-- the same directly after the closing of a session's call, when that session's end may be still to come
pub record IsUpTo (B : Base) (P : Scripts) (s : ℕ) (past : List Event) : Type 0 where
  pub closes : AtEach (ClosesAt P) past
  pub texts : AtEach (TextRefusalsAt P) past
  pub right : AtEach (TakesNoDevice B) past
  pub at_once : AtEach FollowsAtOnce past
  pub leaves : AtEach LeavesAtOnce past
  pub behind : IsBehindCall s past
  pub stays : (t : ℕ) → has_left t past ≡ true → closed_of t past ≡ length (calls_of P t)
  pub not_left : has_left s past ≡ false
  pub ends : (t : ℕ) → (s ≡ t → ⊥) → closed_of t past ≡ length (calls_of P t) → is_open (state t past) ≡ false

-- the program plays from a store without documents
abbrev pub start : Base
start = record { numbers = record { commit = 0; generation = 1 }; forest = no_documents }

-- A script was played whole: the journal is one legal history of its sessions' calls, which are closed in the order of
-- their turns. Each answer is a right one, as told by the session's state and by the documents that it sees. No other
-- event comes between the events of one call, nor between a session's last call and its end. It is a journal as programs
-- print them, so its text tells it (`a_text_tells_its_journal`).
pub record IsWholePlay (B : Base) (script : Script) (journal : List Event) : Type 0 where
  pub legal : Legal journal B script.sessions
  pub in_turn : turns_in journal ≡ all_turns script.sessions script.order
  pub right : AtEach (TakesNoDevice B) (past_of journal)
  pub at_once : AtEach FollowsAtOnce (past_of journal)
  pub leaves : AtEach LeavesAtOnce (past_of journal)
  pub printed : ArePrinted journal

-- A script was played in part: the journal is legal so far, its events are for the script's calls as above, and the calls
-- that are closed are the first ones in the order of their turns. The last event may be one of the next call, before what
-- closes it. It is a journal as programs print them.
pub record IsPartPlay (B : Base) (script : Script) (journal : List Event) : Type 0 where
  pub legal : SoFar B journal
  pub played : IsPlayed B script.sessions (past_of journal)
  pub printed : ArePrinted journal
  pub rest : List ℕ
  pub in_turn : turns_in journal ++ rest ≡ all_turns script.sessions script.order
  pub under_way : IsOfNextTurn (past_of journal) rest
