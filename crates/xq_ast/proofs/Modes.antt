-- Modes of locks.
use Rattle.std.specs.Prelude.{◌≡◌, true, false, Option, None, Some, refl}
use Rattle.xq_ast.specs.declared.need.LockMode.{LockMode}
use Rattle.xq_ast.specs.declared.need.LockMode.TheVariants.{S, X}
use Rattle.xq_ast.specs.Modes.{do_conflict, conflicts, stronger_of, stronger}

-- worked rows
shared_beside_shared : conflicts (Some S) S ≡ false
shared_beside_shared = refl

exclusive_beside_shared : conflicts (Some S) X ≡ true
exclusive_beside_shared = refl

nothing_beside_exclusive : conflicts None X ≡ false
nothing_beside_exclusive = refl

-- which of two locks is held makes no difference
pub conflict-symmetric : (a b : LockMode) → do_conflict a b ≡ do_conflict b a
conflict-symmetric S S = refl
conflict-symmetric S X = refl
conflict-symmetric X S = refl
conflict-symmetric X X = refl

-- which of two modes stands first makes no difference to the stronger
pub stronger-symmetric : (a b : LockMode) → stronger_of a b ≡ stronger_of b a
stronger-symmetric S S = refl
stronger-symmetric S X = refl
stronger-symmetric X S = refl
stronger-symmetric X X = refl

-- a mode beside one that is held: the stronger of the two
pub stronger-held : (mode held : LockMode) → stronger mode (Some held) ≡ stronger_of mode held
stronger-held S held = refl
stronger-held X held = refl
