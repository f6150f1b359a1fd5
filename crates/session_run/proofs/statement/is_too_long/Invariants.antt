use Rattle.std.proofs.Common.{◌≡◌, ◌+◌, ◌≤◌, length, drop}
use Rattle.xml_model.specs.declared.limits.TheConstants.{REPLY_BYTES_MAX}
use Rattle.xml_model.specs.Pyx.{text_of}
use Rattle.session_run.proofs.statement.is_too_long.Given as goal

-- the room that is left is the limit without the text of the lines so far
abbrev pub invariant-loop-line : goal.invariant-loop-line
invariant-loop-line l = record {
  within : l.room ≤ REPLY_BYTES_MAX;
  total : l.room + length (text_of l.lines) ≡ REPLY_BYTES_MAX + length (text_of (drop l.line-index l.lines));
}
