-- The table of the sessions that are in a transaction.
use Rattle.std.specs.Prelude.{Option, Some, None}
use Rattle.std.specs.Coded.{Coded, coded_ℕ}
use Rattle.std.specs.Ordering.{nat_cmp}
use Rattle.std.specs.FinMap as fin
use Rattle.session_core.specs.declared.history.event.State.{State}
use Rattle.session_core.specs.declared.history.event.State.TheVariants.{Idle, Updating, Reading, InDoubt}
use Rattle.session_core.specs.contracts.history.event.State as the_state

-- states by sessions
abbrev pub States : Type 0
States = fin.FinMap nat_cmp State

-- how a table of states is written as one value: by its sessions and their states
abbrev pub states_code : Coded States
states_code = fin.code coded_ℕ the_state.the_row.coded

-- a session that isn't in the table is idle
abbrev pub state_at : Option State → State
state_at None = Idle
state_at (Some state') = state'

-- what the table has for a state: an idle session isn't in it
abbrev pub entry_of : State → Option State
entry_of Idle = None
entry_of Updating = Some Updating
entry_of (Reading n) = Some (Reading n)
entry_of InDoubt = Some InDoubt
