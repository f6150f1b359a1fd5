use Rattle.std.proofs.Common.{take}
use Rattle.script_text.specs.JournalText.{text}
use Rattle.byte_edge.specs.Sending.{Sent, stage}
use Rattle.script_text.proofs.journals.writing.send_events.Given as goal

-- the events so far were sent
abbrev pub invariant-loop-event : goal.invariant-loop-event
invariant-loop-event g l =
    Sent (text (take l.event-index l.fn.journal)) (stage (g.W.Sink.written l.fn.to) (g.W.Sink.faults l.fn.to) l.fn.pending)
    (stage (g.W.Sink.written l.to) (g.W.Sink.faults l.to) l.pending)
