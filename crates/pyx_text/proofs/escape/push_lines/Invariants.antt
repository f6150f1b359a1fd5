use Rattle.std.proofs.Common.{◌≡◌, ◌++◌, length}
use denote.Text.{Utf8}
use denote.Shadow.{shadow}
use Rattle.pyx_text.specs.Replacing.{replaced, line_or_tab}
use Rattle.pyx_text.proofs.escape.push_lines.Given as goal

-- the line so far and the rest with its newlines and tabs replaced are the whole
abbrev pub invariant-loop-before : goal.invariant-loop-before
invariant-loop-before l = shadow (Utf8 l.rest) × (l.line ++ replaced line_or_tab l.rest ≡ l.initial.line ++ replaced line_or_tab l.value)

-- how much of the value is left
abbrev pub decreases-loop-before : goal.decreases-loop-before
decreases-loop-before l = length l.rest
