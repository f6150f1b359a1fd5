-- The clause `settling` of a legal history: commits in doubt, checkpoints, and numbers at their last value. It takes the
-- numbers that the journal begins with, and no documents. All its sentences stand here but two: that CHECKPOINT outside of a
-- transaction is answered Done, Failed, InDoubt or Spent stands in `Refusals` (`is_checkpoint_answer`), and for which call
-- another session's commit is settled needs the scripts and stands in `Closes` (`SettlesFor`); here stands what the call is
-- that is closed then (`ClosesForStore`), since the next event of the session closes it.
use Rattle.std.specs.Prelude.{◌≡◌, ℕ, ◌+◌, ◌-◌, ◌^◌, ◌/◌, ◌≤◌, ◌<◌, ◌==◌, Bool, true, false, IsTrue, List, [], ◌∷◌, Option, Some, None, ◌⊎◌}
use Rattle.xq_ast.specs.declared.call.Call.{Call}
use Rattle.xq_ast.specs.declared.call.Call.TheVariants.{Begin, BeginRead, Commit, Rollback, Checkpoint, ShowDocuments, Create, Drop, Load, Export, Update, Query}
use Rattle.xq_ast.specs.declared.code.SpentKind.{SpentKind}
use Rattle.xq_ast.specs.declared.code.SpentKind.TheVariants as spent
use Rattle.xq_ast.specs.declared.code.Code.TheVariants as codes
use Rattle.session_core.specs.declared.history.event.State.{State}
use Rattle.session_core.specs.declared.history.event.State.TheVariants.{Idle, Updating, InDoubt}
use Rattle.session_core.specs.declared.history.event.Says.{Says}
use Rattle.session_core.specs.declared.history.event.Says.TheVariants as says
use Rattle.session_core.specs.declared.history.event.Event.{Event}
use Rattle.session_core.specs.declared.history.event.Event.TheVariants.{Began, Granted, Refused, Answered, Committed, Ended, RolledBack, Doubt, Settled, Left}
use Rattle.session_core.specs.History.{session_of, last_of}
use Rattle.session_core.specs.History.Transactions.{Numbers, newest_number}
use Rattle.session_core.specs.History.States.{state, in_doubt}

-- the last number of 64 bits
abbrev pub last_number : ℕ
last_number = 2 ^ 64 - 1

-- the last place in a file, counted in bytes
abbrev pub last_place : ℕ
last_place = 2 ^ 63 - 1

-- the bytes of a page, which a slot holds
abbrev pub page_bytes : ℕ
page_bytes = 4096

-- the last value of each number that ends; the last slot ends at the last place at most
abbrev pub last_of_kind : SpentKind → ℕ
last_of_kind spent.Commit = last_number
last_of_kind spent.Generation = last_number
last_of_kind spent.Page = last_number
last_of_kind spent.Slot = last_place / page_bytes - 1
last_of_kind spent.Log = last_place

-- no commit number is left
abbrev pub HasNoCommitLeft : Numbers → List Event → Type 0
HasNoCommitLeft N past = last_number ≤ newest_number N past

-- a commit number is left
abbrev pub HasCommitLeft : Numbers → List Event → Type 0
HasCommitLeft N past = newest_number N past < last_number

-- one for a COMMIT or a CHECKPOINT, and else none
abbrev pub counts_generation : Option Call → ℕ
counts_generation (Some Commit) = 1
counts_generation (Some Checkpoint) = 1
counts_generation _ = 0

-- one where the event closes a COMMIT or a CHECKPOINT, and else none
abbrev pub generations_by : Event → ℕ
generations_by (Committed s n) = 1
generations_by (Doubt s n mark) = 1
generations_by (Ended s) = 1
generations_by (Answered s reply) = counts_generation reply.call
generations_by _ = 0

-- how many COMMIT and CHECKPOINT calls are closed
abbrev pub generation_calls : List Event → ℕ
generation_calls [] = 0
generation_calls (e ∷ past) = generations_by e + generation_calls past

-- the call is a COMMIT in an updating transaction, or a CHECKPOINT outside of one
abbrev pub writes_store : State → Option Call → Bool
writes_store Updating (Some Commit) = true
writes_store Idle (Some Checkpoint) = true
writes_store _ _ = false

-- the call is a COMMIT in an updating transaction
abbrev pub commits_in : State → Option Call → Bool
commits_in Updating (Some Commit) = true
commits_in _ _ = false

-- the call makes pages
abbrev pub makes_pages : Call → Bool
makes_pages (Create name) = true
makes_pages (Load name pyx) = true
makes_pages (Update what) = true
makes_pages Begin = false
makes_pages BeginRead = false
makes_pages Commit = false
makes_pages Rollback = false
makes_pages Checkpoint = false
makes_pages ShowDocuments = false
makes_pages (Drop name) = false
makes_pages (Export name) = false
makes_pages (Query expr) = false

-- the call makes pages, and its session is in an updating transaction
abbrev pub makes_pages_in : State → Option Call → Bool
makes_pages_in Updating (Some call) = makes_pages call
makes_pages_in _ _ = false

-- a COMMIT or a CHECKPOINT that has settled first; a COMMIT tests the commit number before the others
pub record IsStoreSpent (N : Numbers) (state' : State) (call : Option Call) (past : List Event) : Type 0 where
  pub writes : IsTrue (writes_store state' call)
  pub settled : in_doubt past ≡ None
  pub commit_left : IsTrue (commits_in state' call) → HasNoCommitLeft N past → ⊥

-- a number at its last value stands only for the calls that would take the next
abbrev pub IsSpent : Numbers → SpentKind → State → Option Call → List Event → Type 0
IsSpent N spent.Commit state' call past = IsTrue (commits_in state' call) × HasNoCommitLeft N past
IsSpent N spent.Generation state' call past = IsStoreSpent N state' call past × (last_number ≤ N.generation + generation_calls past)
IsSpent N spent.Slot state' call past = IsStoreSpent N state' call past
IsSpent N spent.Log state' call past = IsStoreSpent N state' call past
IsSpent N spent.Page state' call past = IsTrue (makes_pages_in state' call)

-- a checkpoint is done, or in doubt, only where no commit is in doubt
abbrev pub IsSettledForCheckpoint : Option Call → List Event → Type 0
IsSettledForCheckpoint (Some Checkpoint) past = in_doubt past ≡ None
IsSettledForCheckpoint _ past = Unit {0}

-- Whether the head of a log may be in doubt, which no event tells: a checkpoint left it so, one of its own or one
-- that a COMMIT made first, and nothing has been settled since.
abbrev pub head_behind_answer : State → Option Call → Says → Bool → Bool
head_behind_answer Idle (Some Checkpoint) (says.Error (codes.InDoubt mark)) before = true
head_behind_answer Idle (Some Checkpoint) says.Done before = false
head_behind_answer Idle (Some Checkpoint) (says.Error (codes.Spent kind number)) before = false
head_behind_answer Updating (Some Commit) (says.Error (codes.Failed mark)) before = true
head_behind_answer Updating (Some Commit) (says.Error (codes.Spent kind number)) before = false
head_behind_answer _ _ _ before = before

-- whether the head of a log may be in doubt after the event, from whether it might be before
abbrev pub head_behind : Event → List Event → Bool → Bool
head_behind (Answered s reply) past before = head_behind_answer (state s past) reply.call reply.says before
head_behind (Committed s n) past before = false
head_behind (Doubt s n mark) past before = false
head_behind (Settled by s stands) past before = false
head_behind _ past before = before

-- the head of a log may be in doubt after the events
abbrev pub may_doubt_head : List Event → Bool
may_doubt_head [] = false
may_doubt_head (e ∷ past) = head_behind e past (may_doubt_head past)

-- where no commit number is left, a COMMIT fails by settling alone, and then a head is in doubt
abbrev pub FailsBySettling : Numbers → State → Option Call → List Event → Type 0
FailsBySettling N state' call past = IsTrue (commits_in state' call) → HasNoCommitLeft N past → IsTrue (may_doubt_head past)

-- what an answer asks for: a spent number is at its last value, a COMMIT without a number left fails by settling,
-- a checkpoint is done or in doubt where no commit is in doubt before it, and no answer tells of damage
abbrev pub SettlingOfAnswer : Numbers → State → Option Call → Says → List Event → Type 0
SettlingOfAnswer N state' call (says.Error (codes.Spent kind number)) past = (number ≡ last_of_kind kind) × IsSpent N kind state' call past
SettlingOfAnswer N state' call (says.Error (codes.Failed mark)) past = FailsBySettling N state' call past
SettlingOfAnswer N state' call (says.Error (codes.InDoubt mark)) past = IsSettledForCheckpoint call past
SettlingOfAnswer N state' call (says.Error (codes.Damaged commit ordinal page)) past = ⊥
SettlingOfAnswer N state' call says.Done past = IsSettledForCheckpoint call past
SettlingOfAnswer N state' call _ past = Unit {0}

-- nothing is in doubt, and a commit number is left
abbrev pub MayCommit : Numbers → List Event → Type 0
MayCommit N past = (in_doubt past ≡ None) × (HasNoCommitLeft N past → ⊥)

-- who settles: the session in doubt, or one that commits or makes a checkpoint
abbrev pub MaySettle : ℕ → ℕ → State → Type 0
MaySettle by s state' = (by ≡ s) ⊎ ((state' ≡ Updating) ⊎ (state' ≡ Idle))

-- what an event does to a commit in doubt
abbrev pub SettlingOf : Numbers → Event → List Event → Type 0
SettlingOf N (Settled by s stands) past = (state s past ≡ InDoubt) × MaySettle by s (state by past)
SettlingOf N (Committed s n) past = MayCommit N past
SettlingOf N (Doubt s n mark) past = MayCommit N past
SettlingOf N (Answered s reply) past = SettlingOfAnswer N (state s past) reply.call reply.says past
SettlingOf N (Began s kind) past = Unit {0}
SettlingOf N (Granted s needs) past = Unit {0}
SettlingOf N (Refused s name holder needs) past = Unit {0}
SettlingOf N (Ended s) past = Unit {0}
SettlingOf N (RolledBack s) past = Unit {0}
SettlingOf N (Left s) past = Unit {0}

-- for want of memory the call may be lost
abbrev pub IsForStore : State → Option Call → Says → Type 0
IsForStore state' (Some call) answer = IsTrue (writes_store state' (Some call))
IsForStore state' None answer = answer ≡ says.Error codes.NoMemory

-- what a session closes that has settled another's commit: its COMMIT or its CHECKPOINT
abbrev pub ClosesForStore : Event → List Event → Type 0
ClosesForStore (Committed s n) past = Unit {0}
ClosesForStore (Doubt s n mark) past = Unit {0}
ClosesForStore (Answered s reply) past = IsForStore (state s past) reply.call reply.says
ClosesForStore _ past = ⊥

-- and one that has settled its own: any call, which is settled once
abbrev pub ClosesAny : Event → Type 0
ClosesAny (Settled by s stands) = ⊥
ClosesAny (Left s) = ⊥
ClosesAny _ = Unit {0}

-- what may come after a settling: any event that closes a call where the session has settled its own commit,
-- and one that closes a COMMIT or a CHECKPOINT where it has settled another's
abbrev pub ClosesBehind : Bool → Event → List Event → Type 0
ClosesBehind true e past = ClosesAny e
ClosesBehind false e past = ClosesForStore e past

-- where the session's last event settled a commit, this one closes the call that it was settled for
abbrev pub IsBehindSettled : Option Event → Event → List Event → Type 0
IsBehindSettled (Some (Settled by s stands)) e past = ClosesBehind (by == s) e past
IsBehindSettled _ e past = Unit {0}

-- the clause `settling` of one event: it treats a commit in doubt rightly, and closes what was settled for
abbrev pub SettlingAt : Numbers → Event → List Event → Type 0
SettlingAt N e past = SettlingOf N e past × IsBehindSettled (last_of (session_of e) past) e past
