use Rattle.std.proofs.Common.{◌≡◌, IsUtf8, length}
use denote.Text.{Utf8}
use denote.Shadow.{shadow}
use Rattle.script_text.specs.JournalSteps.{behind_name, unquoted}
use Rattle.script_text.proofs.journals.parts.read_name.Given as goal

-- the name so far goes on in the rest to the name of the whole text
abbrev pub invariant-loop-before : goal.invariant-loop-before
invariant-loop-before l = shadow (Utf8 l.rest) × IsUtf8 l.name × (behind_name l.name (unquoted l.rest) ≡ unquoted l.fn.text)

-- how much of the text is left
abbrev pub decreases-loop-before : goal.decreases-loop-before
decreases-loop-before l = length l.rest
