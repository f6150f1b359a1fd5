use Rattle.std.proofs.Common.{◌≡◌, ◌++◌, length}
use denote.Text.{Utf8}
use denote.Shadow.{shadow}
use Rattle.pyx_text.specs.Replacing.{replaced, tab}
use Rattle.pyx_text.proofs.escape.push_tabs.Given as goal

-- the line so far and the rest with its tabs replaced are the whole
abbrev pub invariant-loop-before : goal.invariant-loop-before
invariant-loop-before l = shadow (Utf8 l.rest) × (l.line ++ replaced tab l.rest ≡ l.initial.line ++ replaced tab l.value)

-- how much of the value is left
abbrev pub decreases-loop-before : goal.decreases-loop-before
decreases-loop-before l = length l.rest
