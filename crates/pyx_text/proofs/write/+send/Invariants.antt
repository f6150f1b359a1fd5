use Rattle.std.proofs.Common.{take}
use Rattle.byte_edge.specs.Sending.{Sent, stage}
use Rattle.pyx_text.proofs.LineText.{nodes_text}
use Rattle.pyx_text.proofs.write.+send.Given as goal

-- the lines of the nodes so far were sent
abbrev pub invariant-send_nodes-loop-node : goal.invariant-send_nodes-loop-node
invariant-send_nodes-loop-node g l =
    Sent (nodes_text (take l.node-index l.fn.nodes)) (stage (g.W.Sink.written l.fn.to) (g.W.Sink.faults l.fn.to) l.fn.pending)
    (stage (g.W.Sink.written l.to) (g.W.Sink.faults l.to) l.pending)
