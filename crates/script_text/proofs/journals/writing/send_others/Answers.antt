use Rattle.std.proofs.Common.{rules, ◌++◌}
use Rattle.std.specs.Prelude.{codes}
use Rattle.script_text.specs.JournalText.{need_text}
use Rattle.script_text.specs.Pieces.{others_text}
use Rattle.script_text.proofs.EventText.{others_text-append, others_text-one}
use Rattle.byte_edge.proofs.Sent.{failed, sent_none, sent_next, broke_next}
use Rattle.script_text.proofs.journals.writing.send_others.Goals as goal

pub loop-need-init : goal.loop-need-init
loop-need-init g c = sent_none _

pub returns-in_err-send_need : goal.returns-in_err-send_need
returns-in_err-send_need g c =
    failed c.from_residual.result c.from_residual.ensures.0
    (broke_next others_text (λ n. codes ", " ++ need_text n) others_text-append others_text-one c.args.needs.now c.loop-need.need-index c.need-item.result
    c.need-item.result (search rules) (search rules)
    c.loop-need.invariant c.in_err-send_need.ensures)

pub loop-need-preserved : goal.loop-need-preserved
loop-need-preserved g c =
    sent_next others_text (λ n. codes ", " ++ need_text n) others_text-append others_text-one c.args.needs.now c.loop-need.need-index c.need-item.result
    c.need-item.result (search rules) (search rules)
    c.loop-need.invariant c.in_ok-send_need.ensures
