use Rattle.std.proofs.Common.{take}
use Rattle.byte_edge.specs.Sending.{Sent, stage}
use Rattle.byte_edge.proofs.pending.send_bytes.Given as goal

-- the bytes so far were sent
abbrev pub invariant-loop-byte : goal.invariant-loop-byte
invariant-loop-byte g l =
    Sent (take l.byte-index l.bytes) (stage (g.W.Sink.written l.fn.to) (g.W.Sink.faults l.fn.to) l.fn.pending)
    (stage (g.W.Sink.written l.to) (g.W.Sink.faults l.to) l.pending)
