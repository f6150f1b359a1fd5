-- What one event more must meet for a journal that is legal so far to stay so. Besides its own clauses this is that
-- an answer is the next one of its transaction: that transactions of other sessions are still answered as if they
-- ran next follows from their locks.
use Rattle.std.specs.Prelude.{List, [], ◌∷◌}
use Rattle.xml_model.specs.Forest.{Forest}
use Rattle.session_core.specs.declared.history.event.Reply.{Reply}
use Rattle.session_core.specs.declared.history.event.Event.{Event}
use Rattle.session_core.specs.declared.history.event.Event.TheVariants.{Answered}
use Rattle.session_core.specs.History.CallOrder.{CallOrderAt}
use Rattle.session_core.specs.History.Transactions.{Base, Transaction, open_of, updating, ran, ran_all, run_calls, newest, AnsweredInTurn}
use Rattle.session_core.specs.History.Locks.{LocksAt}
use Rattle.session_core.specs.History.Replies.{SerialAt, SnapshotsAt, UnfinishedAt}
use Rattle.session_core.specs.History.Refusals.{RefusalsAt}
use Rattle.session_core.specs.History.Settling.{SettlingAt}
use Rattle.session_core.specs.History.Marks.{MarksAt}

-- what a session's open updating transaction is answered next is what its call says behind those before
abbrev pub IsNextReply : Forest → List Transaction → Reply → Type 0
IsNextReply F [] r = Unit {0}
IsNextReply F (t ∷ more) r = AnsweredInTurn (run_calls F (ran_all t.replies)) (ran r) × IsNextReply F more r

-- what an event asks for besides: that an answer is the next reply
abbrev pub IsNext : Base → Event → List Event → Type 0
IsNext B (Answered s r) past = IsNextReply (newest B past) (updating (open_of s past)) r
IsNext B _ past = Unit {0}

-- The facts of one event, but for those at the end.
pub record IsStep (B : Base) (e : Event) (past : List Event) : Type 0 where
  pub in_order : CallOrderAt e past
  pub locks : LocksAt e past
  pub serial : SerialAt B e past
  pub snapshots : SnapshotsAt B e past
  pub unfinished : UnfinishedAt B e past
  pub refusals : RefusalsAt e past
  pub settling : SettlingAt B.numbers e past
  pub marks : MarksAt e past
  pub next : IsNext B e past
