use Rattle.std.proofs.Common.{◌≡◌, length}
use Rattle.xml_model.specs.Pyx.{split_lines}
use Rattle.script_text.specs.Scripts.{after, start}
use Rattle.script_text.proofs.scripts.by_lines.read_lines.Given as goal

-- what was read, with the lines that are left, is what all lines make
abbrev pub invariant-loop-first : goal.invariant-loop-first
invariant-loop-first l = after l.sessions (split_lines l.rest) l.reading ≡ after l.sessions (split_lines l.fn.bytes) start

-- how many bytes are left
abbrev pub decreases-loop-first : goal.decreases-loop-first
decreases-loop-first l = length l.rest
