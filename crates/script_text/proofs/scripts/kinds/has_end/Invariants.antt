use Rattle.std.proofs.Common.{◌≡◌, length}
use Rattle.xml_model.specs.Pyx.{split_lines}
use Rattle.script_text.specs.Scripts.{has_end}
use Rattle.script_text.proofs.scripts.kinds.has_end.Given as goal

-- the lines that are left decide whether there is an end
abbrev pub invariant-loop-first : goal.invariant-loop-first
invariant-loop-first l = has_end (split_lines l.rest) ≡ has_end (split_lines l.fn.bytes)

-- how many bytes are left
abbrev pub decreases-loop-first : goal.decreases-loop-first
decreases-loop-first l = length l.rest
