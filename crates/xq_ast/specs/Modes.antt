-- Modes of locks: which conflict, and which is the stronger.
use Rattle.std.specs.Prelude.{Bool, true, false, ◌||◌, Option, None, Some}
use Rattle.xq_ast.specs.declared.need.LockMode.{LockMode}
use Rattle.xq_ast.specs.declared.need.LockMode.TheVariants.{S, X}

-- the mode is X
abbrev pub is_exclusive : LockMode → Bool
is_exclusive S = false
is_exclusive X = true

-- two modes on one name conflict where at least one of them is exclusive
abbrev pub do_conflict : LockMode → LockMode → Bool
do_conflict a b = is_exclusive a || is_exclusive b

-- the same where the first lock may not be held at all
abbrev pub conflicts : Option LockMode → LockMode → Bool
conflicts None asked = false
conflicts (Some held) asked = do_conflict held asked

-- the stronger of two modes: the exclusive one, if one of them is
abbrev pub stronger_of : LockMode → LockMode → LockMode
stronger_of X other = X
stronger_of S other = other

-- the same where the second lock may not be held at all
abbrev pub stronger : LockMode → Option LockMode → LockMode
stronger X held = X
stronger S None = S
stronger S (Some held) = stronger_of S held
