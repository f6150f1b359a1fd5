-- What a refusal of locks says.
use Rattle.std.specs.Prelude.{◌≡◌, ℕ, List, IfSome, slice_get, ⊤}
use Rattle.xq_ast.specs.declared.need.Need.{Need}
use Rattle.doc_locks.specs.declared.end.AskEnd.{AskEnd}
use Rattle.doc_locks.specs.declared.end.AskEnd.TheVariants.{Held, NoMemory}
use Rattle.doc_locks.specs.Names.{Locks}
use Rattle.doc_locks.specs.Locks.{IsFirstConflict}

-- the refusal names the need at this place, and the holder; want of memory is free
abbrev pub NamesConflict : List Need → ℕ → ℕ → AskEnd → Type 0
NamesConflict needs place holder (Held name by) = IfSome (slice_get needs place) (λ need. name ≡ need.name) × (by ≡ holder)
NamesConflict needs place holder NoMemory = ⊤

-- Held names the first need in conflict and its least holder
abbrev pub IsRefusal : Locks → ℕ → List Need → AskEnd → Type 0
IsRefusal t session needs (Held name by) =
    (place : ℕ) × (holder : ℕ) × IsFirstConflict t session needs place holder × NamesConflict needs place holder (Held name by)
IsRefusal t session needs NoMemory = ⊤
