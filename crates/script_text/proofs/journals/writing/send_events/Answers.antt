use Rattle.std.proofs.Common.{rules}
use Rattle.xml_model.specs.Pyx.{text_of}
use Rattle.script_text.specs.JournalText.{text, event_lines}
use Rattle.script_text.proofs.EventText.{text-append, text-one}
use Rattle.byte_edge.proofs.Sent.{failed, sent_none, sent_next, broke_next}
use Rattle.script_text.proofs.journals.writing.send_events.Goals as goal

pub loop-event-init : goal.loop-event-init
loop-event-init g c = sent_none _

pub returns-in_err-send_event : goal.returns-in_err-send_event
returns-in_err-send_event g c =
    failed c.from_residual.result c.from_residual.ensures.0
    (broke_next text (λ e. text_of (event_lines e)) text-append text-one c.args.journal.now c.loop-event.event-index c.event-item.result c.event-item.result
    (search rules) (search rules)
    c.loop-event.invariant c.in_err-send_event.ensures)

pub loop-event-preserved : goal.loop-event-preserved
loop-event-preserved g c =
    sent_next text (λ e. text_of (event_lines e)) text-append text-one c.args.journal.now c.loop-event.event-index c.event-item.result c.event-item.result
    (search rules) (search rules)
    c.loop-event.invariant c.in_ok-send_event.ensures
