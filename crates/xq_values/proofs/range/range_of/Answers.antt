use Rattle.std.proofs.Common.{◌≡◌, map, Ok, ap, sym, ◌∙◌, to_z, of_z, w64}
use Rattle.std.specs.List.{range_with_len}
use Rattle.std.proofs.lemmas.Int.{to_z-of_z}
use Rattle.xq_values.specs.Ranges.{count_of}
use Rattle.xq_values.proofs.Ranges.{nth, range_is}
use Rattle.xq_values.proofs.range.range_of.Goals as goal

pub returns : goal.returns
returns c =
    let low : to_z w64 (of_z w64 c.args.low) ≡ c.args.low = to_z-of_z w64 c.args.low c.ranges.low in
    let high : to_z w64 (of_z w64 c.args.high) ≡ c.args.high = to_z-of_z w64 c.args.high c.ranges.high in
    λ place. range_is c.args.low c.args.high c.in_ok-count.count
    (c.in_ok-count.ensures ∙ (ap (λ v. count_of v (to_z w64 (of_z w64 c.args.high))) low ∙ ap (count_of c.args.low) high))
    ∙ ap (λ items. Ok items) (sym (c.in_ok-all.ensures place ∙ ap (λ v. map (nth v) (range_with_len 0 c.in_ok-count.count)) low))
