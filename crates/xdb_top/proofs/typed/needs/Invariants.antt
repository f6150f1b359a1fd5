use Rattle.std.proofs.Common.{take}
use Rattle.xdb_top.specs.Typed.{HaveTexts}
use Rattle.xdb_top.proofs.typed.needs.Given as goal

-- the names of the needs so far are texts
abbrev pub invariant-loop-need : goal.invariant-loop-need
invariant-loop-need l = HaveTexts (take l.need-index l.needs)
