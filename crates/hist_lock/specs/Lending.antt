-- What a held value becomes after a write through `value`.
use Rattle.std.specs.Borrow.{Lends, MutBor, Fml}
use denote.RattleType.{RattleType}
use Rattle.hist_lock.specs.declared.held.Held.{Held}
use Rattle.hist_lock.specs.contracts.held.Held.{the_row}

-- the same but for the value, which is this one
abbrev pub with_value : {T : Type 0} → Held T → T → Held T
with_value h w = record h { value = w }

-- once the borrow of the value has ended, the pass holds what was last written through it
abbrev pub LendsValue : (R : RattleType) → MutBor (Held R.Denot) → MutBor R.Denot → Fml
LendsValue R h r = Lends (the_row R) R h r (with_value h.now)
