use Rattle.std.proofs.Common.{◌≡◌, drop}
use Rattle.script_text.specs.Scripts.{is_blank}
use Rattle.script_text.proofs.scripts.kinds.is_blank.Given as goal

-- the bytes that are left decide whether the line is blank
abbrev pub invariant-loop-b : goal.invariant-loop-b
invariant-loop-b l = is_blank (drop l.b-index l.line) ≡ is_blank l.line
