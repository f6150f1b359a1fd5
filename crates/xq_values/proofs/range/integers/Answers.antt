use Rattle.std.proofs.Common.{◌≡◌, ℤ, map, ap, ◌∙◌, arith, to_z, of_z, w64, rules}
use Rattle.std.specs.Prelude.{FitsSigned}
use Rattle.std.specs.List.{range_with_len}
use Rattle.std.proofs.lemmas.Int.{to_z-of_z}
use Rattle.xq_values.proofs.Ranges.{nth, one_more}
use Rattle.xq_values.proofs.range.integers.Goals as goal

pub loop-k-preserved : goal.loop-k-preserved
loop-k-preserved c =
    let low : ℤ = to_z w64 (of_z w64 c.args.low) in
    let value : ℤ = to_z w64 (of_z w64 c.behind-value.result) in
    let fits : FitsSigned w64 c.behind-value.result = search rules in
    λ place. one_more place low c.loop-k.all c.push.new.self c.loop-k.k value (to_z-of_z w64 c.behind-value.result fits ∙ c.behind-value.ensures)
    c.in_ok-push.ensures.ok (c.loop-k.invariant place)

pub returns : goal.returns
returns c =
    let all : c.loop-k.k ≡ c.args.count = omega arith in
    let same : to_z w64 (of_z w64 c.args.low) ≡ c.args.low = to_z-of_z w64 c.args.low c.ranges.low in
    λ place. c.loop-k.invariant place ∙ (ap (λ v. map (nth v) (range_with_len 0 c.loop-k.k)) same ∙ ap (λ n. map (nth c.args.low) (range_with_len 0 n)) all)
