use Rattle.std.proofs.Common.{ap, ◌++◌, ◌∷◌, []}
use Rattle.xml_model.specs.Values.{escaped}
use Rattle.byte_edge.proofs.Sent.{failed, broke_before, broke_as, broke_then, sent_as, sent_then, sends_then}
use Rattle.pyx_text.proofs.write.send_rest.Goals as goal

pub returns-in_err-send_byte : goal.returns-in_err-send_byte
returns-in_err-send_byte g c =
    failed c.from_residual.result c.from_residual.ensures.0 (broke_before (escaped c.args.value.now ++ 10 ∷ []) c.in_err-send_byte.ensures)

pub returns-in_err-send_value : goal.returns-in_err-send_value
returns-in_err-send_value g c =
    failed c.from_residual-in_err-send_value.result c.from_residual-in_err-send_value.ensures.0
    (broke_before (10 ∷ []) (broke_then c.in_ok-send_byte.ensures (broke_as _ _ (ap escaped c.as_bytes.ensures) c.in_err-send_value.ensures)))

pub returns : goal.returns
returns g c =
    sends_then c.send_byte-2.result (10 ∷ []) _
    (sent_then c.in_ok-send_byte.ensures (sent_as _ _ (ap escaped c.as_bytes.ensures) c.in_ok-send_value.ensures)) c.send_byte-2.ensures
