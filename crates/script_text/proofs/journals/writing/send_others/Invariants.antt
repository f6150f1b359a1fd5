use Rattle.std.proofs.Common.{take}
use Rattle.script_text.specs.Pieces.{others_text}
use Rattle.byte_edge.specs.Sending.{Sent, stage}
use Rattle.script_text.proofs.journals.writing.send_others.Given as goal

-- the needs so far were sent
abbrev pub invariant-loop-need : goal.invariant-loop-need
invariant-loop-need g l =
    Sent (others_text (take l.need-index l.needs)) (stage (g.W.Sink.written l.fn.to) (g.W.Sink.faults l.fn.to) l.fn.pending)
    (stage (g.W.Sink.written l.to) (g.W.Sink.faults l.to) l.pending)
