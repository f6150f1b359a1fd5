use Rattle.std.proofs.Common.{◌≡◌, ◌++◌, length}
use denote.Text.{Utf8}
use denote.Shadow.{shadow}
use Rattle.xml_model.specs.Values as spec
use Rattle.pyx_text.proofs.escape.push_escaped.Given as goal

-- the line so far and the rest escaped are the whole
abbrev pub invariant-loop-before : goal.invariant-loop-before
invariant-loop-before l = shadow (Utf8 l.rest) × (l.line ++ spec.escaped l.rest ≡ l.initial.line ++ spec.escaped l.value)

-- how much of the value is left
abbrev pub decreases-loop-before : goal.decreases-loop-before
decreases-loop-before l = length l.rest
