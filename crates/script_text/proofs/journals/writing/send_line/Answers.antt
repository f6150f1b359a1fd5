use Rattle.std.proofs.Common.{◌∷◌, []}
use Rattle.byte_edge.proofs.Sent.{failed, broke_as, broke_before, sent_as, sends_then}
use Rattle.script_text.proofs.journals.writing.send_line.Goals as goal

pub returns-in_err-send_bytes : goal.returns-in_err-send_bytes
returns-in_err-send_bytes g c =
    failed c.from_residual.result c.from_residual.ensures.0 (broke_before (10 ∷ []) (broke_as _ _ c.as_bytes.ensures c.in_err-send_bytes.ensures))

pub returns : goal.returns
returns g c = sends_then c.send_byte.result (10 ∷ []) _ (sent_as _ _ c.as_bytes.ensures c.in_ok-send_bytes.ensures) c.send_byte.ensures
