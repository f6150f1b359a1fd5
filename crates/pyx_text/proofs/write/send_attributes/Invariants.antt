use Rattle.std.proofs.Common.{take}
use Rattle.byte_edge.specs.Sending.{Sent, stage}
use Rattle.pyx_text.proofs.LineText.{attributes_text}
use Rattle.pyx_text.proofs.write.send_attributes.Given as goal

-- the lines of the attributes so far were sent
abbrev pub invariant-loop-attr : goal.invariant-loop-attr
invariant-loop-attr g l =
    Sent (attributes_text (take l.attr-index l.fn.attrs)) (stage (g.W.Sink.written l.fn.to) (g.W.Sink.faults l.fn.to) l.fn.pending)
    (stage (g.W.Sink.written l.to) (g.W.Sink.faults l.to) l.pending)
