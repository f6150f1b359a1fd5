use Rattle.std.proofs.Common.{refl, ◌∷◌, []}
use Rattle.script_text.specs.JournalText.{doubled}
use Rattle.script_text.proofs.EventText.{doubled-append}
use Rattle.byte_edge.proofs.Sent.{failed, sent_none, sent_next, broke_next}
use Rattle.script_text.proofs.journals.pieces.send_doubled.Goals as goal

pub loop-byte-init : goal.loop-byte-init
loop-byte-init g c = sent_none _

pub returns-in_err-send_quotable : goal.returns-in_err-send_quotable
returns-in_err-send_quotable g c =
    failed c.from_residual.result c.from_residual.ensures.0
    (broke_next doubled (λ b. doubled (b ∷ [])) doubled-append
    (λ b. refl) c.args.bytes.now c.loop-byte.byte-index 0 _ c.loop-byte-test.true refl c.loop-byte.invariant c.in_err-send_quotable.ensures)

pub loop-byte-preserved : goal.loop-byte-preserved
loop-byte-preserved g c =
    sent_next doubled (λ b. doubled (b ∷ [])) doubled-append
    (λ b. refl) c.args.bytes.now c.loop-byte.byte-index 0 _ c.loop-byte-test.true refl c.loop-byte.invariant c.in_ok-send_quotable.ensures
