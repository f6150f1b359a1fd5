use Rattle.std.proofs.Common.{◌≡◌, ◌≤◌, ◌+◌, false, length}
use Rattle.xml_model.specs.Pyx.{split_lines}
use Rattle.script_text.specs.Scripts.{sessions_in}
use Rattle.script_text.proofs.scripts.kinds.count_sessions.Given as goal

-- the sessions so far and those in the lines that are left are those of all lines, no more than there are bytes
abbrev pub invariant-loop-first : goal.invariant-loop-first
invariant-loop-first l =
    (l.sessions + sessions_in l.in_load (split_lines l.rest) ≡ sessions_in false (split_lines l.fn.bytes)) × (l.sessions + length l.rest ≤ length l.fn.bytes)

-- how many bytes are left
abbrev pub decreases-loop-first : goal.decreases-loop-first
decreases-loop-first l = length l.rest
