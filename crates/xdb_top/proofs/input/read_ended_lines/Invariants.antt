use Rattle.std.proofs.Common.{◌≡◌, length, IsOk}
use denote.Text.{Utf8}
use denote.Shadow.{shadow}
use Rattle.xml_model.specs.Pyx.{after, split_ended_lines, ◌>>=◌}
use Rattle.xdb_top.proofs.input.read_ended_lines.Given as goal

-- what the reader has, with the ended lines that are left, is what those of the whole text make, and no line was refused
abbrev pub invariant-loop-first : goal.invariant-loop-first
invariant-loop-first l =
    shadow (Utf8 l.rest) × IsOk l.reader × ((l.reader >>= after (split_ended_lines l.rest)) ≡ (l.initial.reader >>= after (split_ended_lines l.text)))

-- how much of the text is left
abbrev pub decreases-loop-first : goal.decreases-loop-first
decreases-loop-first l = length l.rest
