use Rattle.std.proofs.Common.{refl, ◌∷◌, []}
use Rattle.xml_model.specs.Values.{escaped}
use Rattle.pyx_text.proofs.LineText.{escaped-append}
use Rattle.byte_edge.proofs.Sent.{failed, sent_none, sent_next, broke_next}
use Rattle.pyx_text.proofs.write.send_value.Goals as goal

pub loop-byte-init : goal.loop-byte-init
loop-byte-init g c = sent_none _

pub returns-in_err-send_escaped : goal.returns-in_err-send_escaped
returns-in_err-send_escaped g c =
    failed c.from_residual.result c.from_residual.ensures.0
    (broke_next escaped (λ b. escaped (b ∷ [])) escaped-append
    (λ b. refl) c.args.value.now c.loop-byte.byte-index 0 _ c.loop-byte-test.true refl c.loop-byte.invariant c.in_err-send_escaped.ensures)

pub loop-byte-preserved : goal.loop-byte-preserved
loop-byte-preserved g c =
    sent_next escaped (λ b. escaped (b ∷ [])) escaped-append
    (λ b. refl) c.args.value.now c.loop-byte.byte-index 0 _ c.loop-byte-test.true refl c.loop-byte.invariant c.in_ok-send_escaped.ensures
