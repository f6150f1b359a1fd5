use Rattle.byte_edge.proofs.Sent.{failed, broke_before, sends_as, sends_then}
use Rattle.pyx_text.proofs.write.send_mark.Goals as goal

pub returns-in_err-send_byte : goal.returns-in_err-send_byte
returns-in_err-send_byte g c = failed c.from_residual.result c.from_residual.ensures.0 (broke_before c.args.name.now c.in_err-send_byte.ensures)

pub returns : goal.returns
returns g c = sends_then c.send_bytes.result c.args.name.now _ c.in_ok-send_byte.ensures
    (sends_as c.send_bytes.result _ _ _ _ c.as_bytes.ensures c.send_bytes.ensures)
