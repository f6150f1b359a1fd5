use Rattle.std.proofs.Common.{◌≡◌, ◌<◌, ◌++◌, length}
use denote.Text.{Utf8}
use denote.Shadow.{shadow}
use Rattle.script_text.specs.JournalText.{needs_text}
use Rattle.script_text.specs.JournalRows.{AreUtf8}
use Rattle.script_text.proofs.journals.parts.read_needs.Given as goal

-- the needs so far, at least one, and the rest are the whole text
abbrev pub invariant-loop-more : goal.invariant-loop-more
invariant-loop-more l = shadow (Utf8 l.rest) × (0 < length l.needs) × AreUtf8 l.needs × (needs_text l.needs ++ l.rest ≡ l.fn.text)

-- how much of the text is left
abbrev pub decreases-loop-more : goal.decreases-loop-more
decreases-loop-more l = length l.rest
