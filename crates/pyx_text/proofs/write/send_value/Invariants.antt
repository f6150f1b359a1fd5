use Rattle.std.proofs.Common.{take}
use Rattle.xml_model.specs.Values.{escaped}
use Rattle.byte_edge.specs.Sending.{Sent, stage}
use Rattle.pyx_text.proofs.write.send_value.Given as goal

-- the bytes so far were sent, escaped
abbrev pub invariant-loop-byte : goal.invariant-loop-byte
invariant-loop-byte g l =
    Sent (escaped (take l.byte-index l.value)) (stage (g.W.Sink.written l.fn.to) (g.W.Sink.faults l.fn.to) l.fn.pending)
    (stage (g.W.Sink.written l.to) (g.W.Sink.faults l.to) l.pending)
