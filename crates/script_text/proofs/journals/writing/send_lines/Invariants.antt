use Rattle.std.proofs.Common.{take}
use Rattle.xml_model.specs.Pyx.{text_of}
use Rattle.byte_edge.specs.Sending.{Sent, stage}
use Rattle.script_text.proofs.journals.writing.send_lines.Given as goal

-- the lines so far were sent
abbrev pub invariant-loop-line : goal.invariant-loop-line
invariant-loop-line g l =
    Sent (text_of (take l.line-index l.fn.lines)) (stage (g.W.Sink.written l.fn.to) (g.W.Sink.faults l.fn.to) l.fn.pending)
    (stage (g.W.Sink.written l.to) (g.W.Sink.faults l.to) l.pending)
