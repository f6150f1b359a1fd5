-- The value in the hands of a pass.
use Rattle.hist_lock.specs.declared.held.Held.{Held}

-- what the pass may read and write while it is inside
abbrev pub value_of : {T : Type 0} → Held T → T
value_of h = h.value
