-- The transactions of a journal: which are open, which are committed, and what the calls that ran in them do to
-- the documents when whole transactions run one after another.
use Rattle.std.specs.Prelude.{◌≡◌, ℕ, ◌+◌, ◌==◌, Bool, true, false, not, if◌then◌else◌, List, [], ◌∷◌, ◌++◌, length, take, Option, Some, None}
use Rattle.xq_ast.specs.declared.call.Call.{Call}
use Rattle.xq_ast.specs.declared.code.Code.{Code}
use Rattle.xq_ast.specs.declared.code.Code.TheVariants as codes
use Rattle.xq_ast.specs.declared.need.Need.{Need}
use Rattle.xml_model.specs.Forest.{Forest}
use Rattle.xml_model.specs.Statement.{is_statement, stmt, Answer, done, lines, error}
use Rattle.session_core.specs.declared.history.event.BeginKind.{BeginKind}
use Rattle.session_core.specs.declared.history.event.BeginKind.TheVariants as kinds
use Rattle.session_core.specs.declared.history.event.Reply.{Reply}
use Rattle.session_core.specs.declared.history.event.Says.{Says}
use Rattle.session_core.specs.declared.history.event.Says.TheVariants as says
use Rattle.session_core.specs.declared.history.event.Event.{Event}
use Rattle.session_core.specs.declared.history.event.Event.TheVariants.{Began, Granted, Refused, Answered, Committed, Ended, RolledBack, Doubt, Settled, Left}

-- The numbers that a journal begins with: the commit number and the generation of the store.
pub record Numbers : Type 0 where
  pub commit : ℕ
  pub generation : ℕ

-- What a journal begins with: its numbers, and the documents of the store.
pub record Base : Type 0 where
  pub numbers : Numbers
  pub forest : Forest

-- A transaction so far: its kind, the locks granted to it, the replies to its calls in order, and whether its
-- commit is in doubt.
pub record Transaction : Type 0 where
  pub kind : BeginKind
  pub locks : List Need
  pub replies : List Reply
  pub in_doubt : Bool

-- a transaction that has just begun: without locks and replies, and not in doubt
abbrev pub begun : BeginKind → Transaction
begun kind = record { kind = kind; locks = []; replies = []; in_doubt = false }

-- the transaction with more locks, where there is one
abbrev pub with_locks : List Need → Option Transaction → Option Transaction
with_locks more None = None
with_locks more (Some t) = Some (record t { locks = t.locks ++ more })

-- the transaction with one reply more, where there is one
abbrev pub with_reply : Reply → Option Transaction → Option Transaction
with_reply reply None = None
with_reply reply (Some t) = Some (record t { replies = t.replies ++ reply ∷ [] })

-- the transaction with its commit in doubt, where there is one
abbrev pub with_doubt : Option Transaction → Option Transaction
with_doubt None = None
with_doubt (Some t) = Some (record t { in_doubt = true })

-- a session's open transaction behind an event; a transaction ends where its session commits, ends, rolls back or
-- leaves, or where its commit is settled, by whichever session
abbrev pub open_behind : ℕ → Event → Option Transaction → Option Transaction
open_behind s (Began t kind) open' = if t == s then Some (begun kind) else open'
open_behind s (Granted t needs) open' = if t == s then with_locks needs open' else open'
open_behind s (Refused t name holder needs) open' = open'
open_behind s (Answered t reply) open' = if t == s then with_reply reply open' else open'
open_behind s (Committed t n) open' = if t == s then None else open'
open_behind s (Ended t) open' = if t == s then None else open'
open_behind s (RolledBack t) open' = if t == s then None else open'
open_behind s (Doubt t n mark) open' = if t == s then with_doubt open' else open'
open_behind s (Settled by t stands) open' = if t == s then None else open'
open_behind s (Left t) open' = if t == s then None else open'

-- the session's open transaction
abbrev pub open_of : ℕ → List Event → Option Transaction
open_of s [] = None
open_of s (e ∷ past) = open_behind s e (open_of s past)

-- the transaction, where it is an updating one
abbrev pub where_updating : Transaction → BeginKind → List Transaction
where_updating t kinds.Updating = t ∷ []
where_updating t (kinds.Reading n) = []

-- the open transaction, where there is one and it is an updating one
abbrev pub updating : Option Transaction → List Transaction
updating None = []
updating (Some t) = where_updating t t.kind

-- the updating transaction that the event commits
abbrev pub committed_by : Event → List Event → List Transaction
committed_by (Committed s n) past = updating (open_of s past)
committed_by (Settled by s true) past = updating (open_of s past)
committed_by (Settled by s false) past = []
committed_by (Began s kind) past = []
committed_by (Granted s needs) past = []
committed_by (Refused s name holder needs) past = []
committed_by (Answered s reply) past = []
committed_by (Ended s) past = []
committed_by (RolledBack s) past = []
committed_by (Doubt s n mark) past = []
committed_by (Left s) past = []

-- the committed transactions, in the order of the events that commit them
abbrev pub commits : List Event → List Transaction
commits [] = []
commits (e ∷ past) = commits past ++ committed_by e past

-- the number of commit events
abbrev pub commit_count : List Event → ℕ
commit_count past = length (commits past)

-- the newest commit number
abbrev pub newest_number : Numbers → List Event → ℕ
newest_number N past = N.commit + commit_count past

-- the number that the next commit takes
abbrev pub next_number : Numbers → List Event → ℕ
next_number N past = N.commit + (commit_count past + 1)

-- these answers say that the call did not run
abbrev pub is_without_run : Code → Bool
is_without_run codes.NoTransaction = true
is_without_run codes.InTransaction = true
is_without_run codes.ReadOnly = true
is_without_run codes.Updating = true
is_without_run (codes.Failed mark) = true
is_without_run (codes.Spent kind number) = true
is_without_run (codes.Damaged commit ordinal page) = true
is_without_run codes.NoMemory = true
is_without_run _ = false

-- the answer says that its call ran
abbrev pub says_run : Says → Bool
says_run (says.Error code) = not (is_without_run code)
says_run _ = true

-- A call that ran, and what it was answered.
pub record Ran : Type 0 where
  pub call : Call
  pub says : Says

-- the call with its answer, where it is a statement and ran
abbrev pub ran_by : Option Call → Says → List Ran
ran_by None answer = []
ran_by (Some call) answer = if is_statement call then (if says_run answer then record { call = call; says = answer } ∷ [] else []) else []

-- the call of a reply, where it ran
abbrev pub ran : Reply → List Ran
ran reply = ran_by reply.call reply.says

-- the calls that ran, of all the replies in order
abbrev pub ran_all : List Reply → List Ran
ran_all [] = []
ran_all (reply ∷ more) = ran reply ++ ran_all more

-- the forest behind some calls, one after another
abbrev pub run_calls : Forest → List Ran → Forest
run_calls F [] = F
run_calls F (r ∷ more) = run_calls (stmt F r.call).forest more

-- the forest behind some transactions, one whole transaction after another
abbrev pub serial : Forest → List Transaction → Forest
serial F [] = F
serial F (t ∷ more) = serial (run_calls F (ran_all t.replies)) more

-- the forest after the first k commits
abbrev pub after : Base → List Event → ℕ → Forest
after B past k = serial B.forest (take k (commits past))

-- the forest after all commits
abbrev pub newest : Base → List Event → Forest
newest B past = after B past (commit_count past)

-- what a statement's answer is in a journal
abbrev pub says_of : Answer → Says
says_of done = says.Done
says_of (lines all) = says.Lines all
says_of (error code) = says.Error code

-- the calls were answered as they answer when they run one after another on this forest
abbrev pub AnsweredInTurn : Forest → List Ran → Type 0
AnsweredInTurn F [] = Unit {0}
AnsweredInTurn F (r ∷ more) = (r.says ≡ says_of (stmt F r.call).says) × AnsweredInTurn (stmt F r.call).forest more

-- the calls were each answered as on this forest
abbrev pub AnsweredAt : Forest → List Ran → Type 0
AnsweredAt F [] = Unit {0}
AnsweredAt F (r ∷ more) = (r.says ≡ says_of (stmt F r.call).says) × AnsweredAt F more
