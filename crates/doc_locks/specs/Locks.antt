-- When locks conflict, what is granted and what a refusal names.
use Rattle.std.specs.Prelude.{◌≡◌, ℕ, ◌≤◌, Bool, true, false, not, ◌&&◌, ◌==◌, List, [], ◌∷◌, Option, Some, None, unwrap_or, All, IsSomeAnd, slice_get, take, map}
use Rattle.std.specs.FinMap as fin
use Rattle.xq_ast.specs.declared.need.LockMode.{LockMode}
use Rattle.xq_ast.specs.Modes.{conflicts, stronger}
use Rattle.xq_ast.specs.declared.need.Need.{Need}
use Rattle.doc_locks.specs.Names.{Names, Locks}

-- what a session holds: nothing where it isn't in the table
abbrev pub names_of : Locks → ℕ → Names
names_of t session = unwrap_or (fin.get t session) fin.empty

-- the mode in which a session holds a name, if it does
abbrev pub mode_held : Locks → ℕ → List ℕ → Option LockMode
mode_held t session name = fin.get (names_of t session) name

-- whether a session is another than the one that asks, and holds a lock that conflicts with the need
abbrev pub is_blocked_by : Locks → ℕ → Need → ℕ → Bool
is_blocked_by t session need holder = not (holder == session) && conflicts (mode_held t holder need.name) need.mode

-- no other session holds a lock that conflicts with the need
abbrev pub IsFree : Locks → ℕ → Need → Type 0
IsFree t session need = (holder : ℕ) → is_blocked_by t session need holder ≡ false

-- the least session that holds a lock that conflicts with the need
pub record IsLeastHolder (t : Locks) (session : ℕ) (need : Need) (holder : ℕ) : Type 0 where
  pub holds : is_blocked_by t session need holder ≡ true
  pub least : (other : ℕ) → is_blocked_by t session need other ≡ true → holder ≤ other

-- all needs before this place are free, and the one there is the first in conflict, with its least holder
pub record IsFirstConflict (t : Locks) (session : ℕ) (needs : List Need) (place holder : ℕ) : Type 0 where
  pub before : All (IsFree t session) (take place needs)
  pub there : IsSomeAnd (slice_get needs place) (λ need. IsLeastHolder t session need holder)

-- what a session holds once needs are granted to it as well
abbrev pub with_need : Names → Need → Names
with_need names need = fin.insert names need.name (stronger need.mode (fin.get names need.name))

-- what a session holds once all of these needs are granted to it as well
abbrev pub with_needs : List Need → Names → Names
with_needs [] names = names
with_needs (need ∷ needs) names = with_needs needs (with_need names need)

-- names with their modes as a list of needs, in byte order
abbrev pub need_of : List ℕ × LockMode → Need
need_of e = record { name = e.0; mode = e.1 }

-- what a session holds, as a list of needs in byte order
abbrev pub needs_of : Names → List Need
needs_of names = map need_of (fin.entries names)

-- the table once needs are granted to a session: what the others hold stays
abbrev pub granted : Locks → ℕ → List Need → Locks
granted t session needs = fin.insert t session (with_needs needs (names_of t session))
