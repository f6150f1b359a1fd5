use Rattle.std.proofs.Common.{sym, [], ◌∷◌}
use Rattle.byte_edge.proofs.Sent.{failed, broke_before, broke_as, sends_as, sends_then}
use Rattle.pyx_text.proofs.write.send_escaped.Goals as goal

pub returns-in-None : goal.returns-in-None
returns-in-None g c = sends_as c.send_byte.result _ _ _ _ (sym c.in-None.ensures) c.send_byte.ensures

pub returns-in_err-send_byte-in-Some : goal.returns-in_err-send_byte-in-Some
returns-in_err-send_byte-in-Some g c =
    failed c.from_residual.result c.from_residual.ensures.0
    (broke_as _ _ (sym c.in-Some.ensures) (broke_before (c.in-Some.letter ∷ []) c.in_err-send_byte-in-Some.ensures))

pub returns-in_ok-send_byte-in-Some : goal.returns-in_ok-send_byte-in-Some
returns-in_ok-send_byte-in-Some g c =
    sends_as c.send_byte-in-Some-2.result _ _ _ _ (sym c.in-Some.ensures)
    (sends_then c.send_byte-in-Some-2.result (c.in-Some.letter ∷ []) _ c.in_ok-send_byte-in-Some.ensures c.send_byte-in-Some-2.ensures)
