use Rattle.std.proofs.Common.{take}
use Rattle.script_text.specs.JournalText.{doubled}
use Rattle.byte_edge.specs.Sending.{Sent, stage}
use Rattle.script_text.proofs.journals.pieces.send_doubled.Given as goal

-- the bytes so far were sent, with their quotes doubled
abbrev pub invariant-loop-byte : goal.invariant-loop-byte
invariant-loop-byte g l =
    Sent (doubled (take l.byte-index l.bytes)) (stage (g.W.Sink.written l.fn.to) (g.W.Sink.faults l.fn.to) l.fn.pending)
    (stage (g.W.Sink.written l.to) (g.W.Sink.faults l.to) l.pending)
