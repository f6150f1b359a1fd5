use Rattle.std.proofs.Common.{◌≡◌, ◌++◌, length}
use denote.Text.{Utf8}
use denote.Shadow.{shadow}
use Rattle.xml_model.specs.Values as spec
use Rattle.pyx_text.proofs.escape.unescape.Given as goal

-- the value so far and what the rest spells are what the whole spells
abbrev pub invariant-loop-before : goal.invariant-loop-before
invariant-loop-before l = shadow (Utf8 l.rest) × (l.value ++ spec.unescaped l.rest ≡ spec.unescaped l.spelled)

-- how much of the text is left
abbrev pub decreases-loop-before : goal.decreases-loop-before
decreases-loop-before l = length l.rest
