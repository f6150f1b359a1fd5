use Rattle.std.proofs.Common.{refl, ◌∷◌, []}
use Rattle.byte_edge.proofs.Sent.{failed, sent_none, sent_next, broke_next}
use Rattle.byte_edge.proofs.pending.send_bytes.Goals as goal

pub loop-byte-init : goal.loop-byte-init
loop-byte-init g c = sent_none _

pub returns-in_err-send_byte : goal.returns-in_err-send_byte
returns-in_err-send_byte g c =
    failed c.from_residual.result c.from_residual.ensures.0
    (broke_next (λ l. l) (λ b. b ∷ []) (λ xs ys. refl)
    (λ b. refl) c.args.bytes.now c.loop-byte.byte-index 0 _ c.loop-byte-test.true refl c.loop-byte.invariant c.in_err-send_byte.ensures)

pub loop-byte-preserved : goal.loop-byte-preserved
loop-byte-preserved g c =
    sent_next (λ l. l) (λ b. b ∷ []) (λ xs ys. refl)
    (λ b. refl) c.args.bytes.now c.loop-byte.byte-index 0 _ c.loop-byte-test.true refl c.loop-byte.invariant c.in_ok-send_byte.ensures
