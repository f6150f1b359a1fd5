use Rattle.std.proofs.Common.{◌≡◌, length}
use denote.Text.{Utf8}
use denote.Shadow.{shadow}
use Rattle.script_text.specs.Scripts.{numbers, split_words}
use Rattle.script_text.specs.ScriptEnds.{with_more}
use Rattle.script_text.proofs.scripts.numbers.push_numbers.Given as goal

-- the order so far, with the numbers of the words that are left, is what all the words make
abbrev pub invariant-loop-word : goal.invariant-loop-word
invariant-loop-word l =
    shadow (Utf8 l.rest) × (with_more l.order (numbers l.most (split_words l.rest)) ≡ with_more l.fn.order (numbers l.most (split_words l.fn.words)))

-- how much of the text is left
abbrev pub decreases-loop-word : goal.decreases-loop-word
decreases-loop-word l = length l.rest
