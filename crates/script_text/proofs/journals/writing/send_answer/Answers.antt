use Rattle.xml_model.specs.Pyx.{text_of}
use Rattle.script_text.proofs.EventText.{answer_parts}
use Rattle.byte_edge.proofs.Sent.{failed, broke_as, broke_before, sends_as, sends_then}
use Rattle.script_text.proofs.journals.writing.send_answer.Goals as goal

pub returns-in_err-send_numbered : goal.returns-in_err-send_numbered
returns-in_err-send_numbered g c =
    failed c.from_residual.result c.from_residual.ensures.0
    (broke_as _ _ (answer_parts c.len.result c.args.session c.args.lines.now c.len.ensures)
    (broke_before (text_of c.args.lines.now) c.in_err-send_numbered.ensures))

pub returns : goal.returns
returns g c =
    sends_as c.send_lines.result _ _ _ _ (answer_parts c.len.result c.args.session c.args.lines.now c.len.ensures)
    (sends_then c.send_lines.result (text_of c.args.lines.now) _ c.in_ok-send_numbered.ensures c.send_lines.ensures)
