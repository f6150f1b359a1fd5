use Rattle.std.proofs.Common.{length}
use denote.Text.{Utf8}
use denote.Shadow.{shadow}
use Rattle.script_text.proofs.TextTells.{ReadSoFar}
use Rattle.script_text.proofs.journals.reading.read_events.Given as goal

-- the events so far and the rest are the whole text
abbrev pub invariant-loop-rest : goal.invariant-loop-rest
invariant-loop-rest l = shadow (Utf8 l.rest) × ReadSoFar l.journal l.rest l.fn.text

-- how much of the text is left
abbrev pub decreases-loop-rest : goal.decreases-loop-rest
decreases-loop-rest l = length l.rest
