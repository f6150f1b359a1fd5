use Rattle.std.proofs.Common.{◌≡◌, drop}
use Rattle.xml_model.specs.Pyx.{start, after, ◌>>=◌}
use Rattle.session_run.proofs.statement.read_lines.Given as goal

-- what the reader has, with the lines that are left, is what all the lines make
abbrev pub invariant-loop-line : goal.invariant-loop-line
invariant-loop-line l = (l.reader >>= after (drop l.line-index l.lines)) ≡ after l.lines start
