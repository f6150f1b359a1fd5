use Rattle.std.proofs.Common.{◌≡◌, ◌+◌, ◌≤◌, length, drop}
use Rattle.xml_model.specs.Pyx.{text_of}
use Rattle.xq_functions.proofs.reply.room_behind.Given as goal

-- what is left is the room without the text of the lines so far
abbrev pub invariant-loop-line : goal.invariant-loop-line
invariant-loop-line l = record {
  within : l.left ≤ l.room;
  total : l.left + length (text_of l.lines) ≡ l.room + length (text_of (drop l.line-index l.lines));
}
