use denote.Text.{Utf8}
use denote.Shadow.{shadow}
use Rattle.script_text.proofs.EventRows.{LinesSoFar}
use Rattle.script_text.proofs.journals.parts.read_lines.Given as goal

-- so many lines and the rest are the whole text
abbrev pub invariant-loop : goal.invariant-loop
invariant-loop l = shadow (Utf8 l.rest) × LinesSoFar l.counter l.lines l.rest l.fn.text
