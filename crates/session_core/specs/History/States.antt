-- The state of a session and the locks that it holds, at a place of a journal.
use Rattle.std.specs.Prelude.{ℕ, Bool, true, false, ◌||◌, if◌then◌else◌, List, [], ◌∷◌, Option, Some, None}
use Rattle.std.specs.Str.{bytes_eq}
use Rattle.xq_ast.specs.declared.need.LockMode.{LockMode}
use Rattle.xq_ast.specs.declared.need.Need.{Need}
use Rattle.xq_ast.specs.Modes.{stronger, conflicts}
use Rattle.session_core.specs.declared.history.event.BeginKind.{BeginKind}
use Rattle.session_core.specs.declared.history.event.BeginKind.TheVariants as kinds
use Rattle.session_core.specs.declared.history.event.State.{State}
use Rattle.session_core.specs.declared.history.event.State.TheVariants.{Idle, Updating, Reading, InDoubt}
use Rattle.session_core.specs.declared.history.event.Event.{Event}
use Rattle.session_core.specs.declared.history.event.Event.TheVariants as events
use Rattle.session_core.specs.History.Transactions.{Transaction, open_of}

-- the state of a session in a transaction of this kind
abbrev pub state_in : BeginKind → State
state_in kinds.Updating = Updating
state_in (kinds.Reading n) = Reading n

-- the state of a session with this open transaction, or with none
abbrev pub state_with : Option Transaction → State
state_with None = Idle
state_with (Some t) = if t.in_doubt then InDoubt else state_in t.kind

-- the session's state
abbrev pub state : ℕ → List Event → State
state s past = state_with (open_of s past)

-- a transaction is open and not in doubt
abbrev pub is_open : State → Bool
is_open Idle = false
is_open Updating = true
is_open (Reading n) = true
is_open InDoubt = false

-- a read-only transaction is open
abbrev pub is_reading : State → Bool
is_reading Idle = false
is_reading Updating = false
is_reading (Reading n) = true
is_reading InDoubt = false

-- the strongest mode that the needs list for the name
abbrev pub strongest : List ℕ → List Need → Option LockMode
strongest name [] = None
strongest name (n ∷ more) = if bytes_eq n.name name then Some (stronger n.mode (strongest name more)) else strongest name more

-- the mode that a transaction of this kind holds on the name: a read-only one holds no locks
abbrev pub held_in : List ℕ → Transaction → BeginKind → Option LockMode
held_in name t kinds.Updating = strongest name t.locks
held_in name t (kinds.Reading n) = None

-- the mode that an open transaction holds on the name; without a transaction none is held
abbrev pub held_with : List ℕ → Option Transaction → Option LockMode
held_with name None = None
held_with name (Some t) = held_in name t t.kind

-- the mode in which the session holds a lock on the name: its updating transaction, also one in doubt, was granted it
abbrev pub held : ℕ → List ℕ → List Event → Option LockMode
held s name past = held_with name (open_of s past)

-- the session holds a lock that conflicts with the need of another
abbrev pub blocks : ℕ → Need → List Event → Bool
blocks s n past = conflicts (held s n.name past) n.mode

-- whose commit is in doubt after the event, from whose was before
abbrev pub doubt_behind : Event → Option ℕ → Option ℕ
doubt_behind (events.Doubt s n mark) whose = Some s
doubt_behind (events.Settled by s stands) whose = None
doubt_behind _ whose = whose

-- whose commit is in doubt, if one is
abbrev pub in_doubt : List Event → Option ℕ
in_doubt [] = None
in_doubt (e ∷ past) = doubt_behind e (in_doubt past)
