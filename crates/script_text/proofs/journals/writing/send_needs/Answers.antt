use Rattle.std.proofs.Common.{◌-◌, length, take, drop}
use Rattle.script_text.specs.Pieces.{others_text}
use Rattle.script_text.proofs.EventText.{needs_parts}
use Rattle.byte_edge.proofs.Sent.{failed, broke_as, broke_before, sends_as, sends_then}
use Rattle.script_text.proofs.journals.writing.send_needs.Goals as goal

pub returns-in_err-send_need-in-len1-up : goal.returns-in_err-send_need-in-len1-up
returns-in_err-send_need-in-len1-up g c =
    let all = c.as_slice.result.now in
    failed c.from_residual.result c.from_residual.ensures.0
    (broke_as _ _ (needs_parts all c.args.needs.now c.first-item.result c.as_slice.ensures c.in-len1-up.len_at_least c.first-item.is)
    (broke_before (others_text (take (length all - 1) (drop 1 all))) c.in_err-send_need-in-len1-up.ensures))

pub returns-in_ok-send_need-in-len1-up : goal.returns-in_ok-send_need-in-len1-up
returns-in_ok-send_need-in-len1-up g c =
    let all = c.as_slice.result.now in
    sends_as c.send_others.result _ _ _ _ (needs_parts all c.args.needs.now c.first-item.result c.as_slice.ensures c.in-len1-up.len_at_least c.first-item.is)
    (sends_then c.send_others.result (others_text (take (length all - 1) (drop 1 all))) _ c.in_ok-send_need-in-len1-up.ensures c.send_others.ensures)
