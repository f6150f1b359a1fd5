use Rattle.std.proofs.Common.{take}
use Rattle.xdb_top.specs.Typed.{AreTexts}
use Rattle.xdb_top.proofs.typed.texts.Given as goal

-- the lines so far are texts
abbrev pub invariant-loop-line : goal.invariant-loop-line
invariant-loop-line l = AreTexts (take l.line-index l.lines)
