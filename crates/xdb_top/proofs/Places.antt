-- What holds of an event of a script that was played whole, at its place.
use Rattle.std.proofs.Common.{List, [], ◌∷◌}
use Rattle.session_core.specs.declared.history.event.Event.{Event}
use Rattle.session_core.specs.History.{AtEach}
use Rattle.session_core.specs.History.Transactions.{Base}
use Rattle.session_core.specs.History.Closes.{Scripts, ClosesAt, TextRefusalsAt}
use Rattle.session_core.specs.History.Locks.{LocksAt}
use Rattle.session_core.specs.History.Replies.{SerialAt, SnapshotsAt}
use Rattle.session_core.specs.History.Refusals.{RefusalsAt}
use Rattle.session_core.specs.History.Settling.{SettlingAt}
use Rattle.session_run.specs.Calls.{TakesNoDevice}
use Rattle.xdb_top.specs.Turns.{LeavesAtOnce, FollowsAtOnce}

-- all facts of one event
pub record IsPlace (B : Base) (P : Scripts) (e : Event) (past : List Event) : Type 0 where
  pub closes : ClosesAt P e past
  pub texts : TextRefusalsAt P e past
  pub right : TakesNoDevice B e past
  pub at_once : FollowsAtOnce e past
  pub leaves : LeavesAtOnce e past
  pub locks : LocksAt e past
  pub serial : SerialAt B e past
  pub snapshots : SnapshotsAt B e past
  pub refusals : RefusalsAt e past
  pub settling : SettlingAt B.numbers e past

-- of each event, where each of them holds of each
pub places : (B : Base) (P : Scripts) (past : List Event) → AtEach (ClosesAt P) past → AtEach (TextRefusalsAt P) past → AtEach (TakesNoDevice B) past
    → AtEach FollowsAtOnce past → AtEach LeavesAtOnce past
    → AtEach LocksAt past → AtEach (SerialAt B) past → AtEach (SnapshotsAt B) past → AtEach RefusalsAt past → AtEach (SettlingAt B.numbers) past
    → AtEach (IsPlace B P) past
places B P [] closes texts right at_once leaves locks serial snapshots refusals settling = tt
places B P (e ∷ past) closes texts right at_once leaves locks serial snapshots refusals settling = (
  record {
    closes = closes.0;
    texts = texts.0;
    right = right.0;
    at_once = at_once.0;
    leaves = leaves.0;
    locks = locks.0;
    serial = serial.0;
    snapshots = snapshots.0;
    refusals = refusals.0;
    settling = settling.0;
  },
  places B P past closes.1 texts.1 right.1 at_once.1 leaves.1 locks.1 serial.1 snapshots.1 refusals.1 settling.1,
)
