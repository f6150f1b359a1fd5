use Rattle.std.proofs.Common.{take}
use Rattle.xdb_top.specs.Typed.{AreTyped}
use Rattle.xdb_top.proofs.typed.typed.Given as goal

-- the events so far are typed
abbrev pub invariant-loop-one : goal.invariant-loop-one
invariant-loop-one l = AreTyped (take l.one-index l.journal)
