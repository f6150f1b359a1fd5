use Rattle.std.proofs.Common.{◌∷◌, []}
use Rattle.byte_edge.proofs.Sent.{failed, broke_before, sends_then}
use Rattle.pyx_text.proofs.write.send_tag.Goals as goal

pub returns-in_err-send_mark : goal.returns-in_err-send_mark
returns-in_err-send_mark g c = failed c.from_residual.result c.from_residual.ensures.0 (broke_before (10 ∷ []) c.in_err-send_mark.ensures)

pub returns : goal.returns
returns g c = sends_then c.send_byte.result (10 ∷ []) _ c.in_ok-send_mark.ensures c.send_byte.ensures
