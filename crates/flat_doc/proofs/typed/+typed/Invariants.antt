use Rattle.std.proofs.Common.{take, IsUtf8}
use Rattle.pyx_text.proofs.LineText.{nodes_text}
use Rattle.flat_doc.proofs.typed.+typed.Given as goal

-- the lines of the nodes so far are UTF-8
abbrev pub invariant-nodes-loop-one : goal.invariant-nodes-loop-one
invariant-nodes-loop-one l = IsUtf8 (nodes_text (take l.one-index l.all))
