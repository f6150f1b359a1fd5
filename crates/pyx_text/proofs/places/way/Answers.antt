use Rattle.std.proofs.Common.{◌≡◌, ◌/◌, ◌%◌, ◌∙◌, ap, arith}
use Rattle.pyx_text.specs.Ways.{half_of}
use Rattle.pyx_text.proofs.Ways.{way_of-bit}
use Rattle.pyx_text.proofs.places.way.Goals as goal
use Rattle.pyx_text.proofs.places.way.Goals.{in-0, in-1, in-2, in_default}

pub returns-clause-same : goal.returns-clause-same
returns-clause-same c =
    let half : c.half-half.result ≡ half_of c.args.name.now (c.args.depth / 4) =
    c.half-half.ensures ∙ ap (λ name. half_of name (c.args.depth / 4)) c.as_bytes.ensures.value in
    elim c.match-depth-rem4.branch [
      | in-0 w ↦ ap (λ k. k % 2) w.bits-is ∙ way_of-bit c.args.name.now c.args.depth c.half-half.result 0 half (omega arith)
      | in-1 w ↦ ap (λ k. k % 2) w.bits-is ∙ way_of-bit c.args.name.now c.args.depth c.half-half.result 1 half (omega arith)
      | in-2 w ↦ ap (λ k. k % 2) w.bits-is ∙ way_of-bit c.args.name.now c.args.depth c.half-half.result 2 half (omega arith)
      | in_default w ↦ ap (λ k. k % 2) w.bits-is ∙ way_of-bit c.args.name.now c.args.depth c.half-half.result 3 half (omega arith)
    ]
