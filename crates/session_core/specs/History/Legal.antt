-- The legal history: of a journal over a base and, with the scripts of its sessions, whole. Each clause is a fact of
-- every event and the events before it; two have a part at the end.
use Rattle.std.specs.Prelude.{List}
use Rattle.session_core.specs.declared.history.event.Event.{Event}
use Rattle.session_core.specs.History.{past_of, AtEach}
use Rattle.session_core.specs.History.CallOrder.{CallOrderAt}
use Rattle.session_core.specs.History.Transactions.{Base}
use Rattle.session_core.specs.History.Locks.{LocksAt}
use Rattle.session_core.specs.History.Replies.{SerialAt, SnapshotsAt, UnfinishedAt, UnfinishedAtEnd}
use Rattle.session_core.specs.History.Refusals.{RefusalsAt}
use Rattle.session_core.specs.History.Settling.{SettlingAt}
use Rattle.session_core.specs.History.Marks.{MarksAt}
use Rattle.session_core.specs.History.Closes.{Scripts, ClosesAt, ClosesAtEnd, TextRefusalsAt}

-- The events answer the calls of the scripts, in order.
pub record IsClosed (P : Scripts) (past : List Event) : Type 0 where
  pub each : AtEach (ClosesAt P) past
  pub in_order : AtEach CallOrderAt past
  pub at_end : ClosesAtEnd P past

-- Transactions without a commit answer as those with one.
pub record IsUnfinished (B : Base) (past : List Event) : Type 0 where
  pub each : AtEach (UnfinishedAt B) past
  pub at_end : UnfinishedAtEnd B past

-- Each call is answered by the order of refusals.
pub record IsOrdered (P : Scripts) (past : List Event) : Type 0 where
  pub by_state : AtEach RefusalsAt past
  pub by_text : AtEach (TextRefusalsAt P) past

-- The part that holds without scripts: the journal is legal so far.
pub record SoFar (B : Base) (journal : List Event) : Type 0 where
  pub in_order : AtEach CallOrderAt (past_of journal)
  pub locks : AtEach LocksAt (past_of journal)
  pub serial : AtEach (SerialAt B) (past_of journal)
  pub snapshots : AtEach (SnapshotsAt B) (past_of journal)
  pub unfinished : IsUnfinished B (past_of journal)
  pub refusals : AtEach RefusalsAt (past_of journal)
  pub settling : AtEach (SettlingAt B.numbers) (past_of journal)
  pub marks : AtEach MarksAt (past_of journal)

-- The journal is one legal history of the scripts over the base.
pub record Legal (journal : List Event) (B : Base) (P : Scripts) : Type 0 where
  pub closes : IsClosed P (past_of journal)
  pub locks : AtEach LocksAt (past_of journal)
  pub serial : AtEach (SerialAt B) (past_of journal)
  pub snapshots : AtEach (SnapshotsAt B) (past_of journal)
  pub unfinished : IsUnfinished B (past_of journal)
  pub refusals : IsOrdered P (past_of journal)
  pub settling : AtEach (SettlingAt B.numbers) (past_of journal)
  pub marks : AtEach MarksAt (past_of journal)
