use Rattle.std.proofs.Common.{◌≡◌, ℤ, map, subst, to_z, of_z, w64}
use Rattle.std.proofs.lemmas.Int.{to_z-of_z}
use Rattle.xml_model.specs.Atoms.{range_of}
use Rattle.xq_values.specs.Gives.{Gives}
use Rattle.xq_values.specs.Seen.{item_seen}
use Rattle.xq_functions.proofs.operators.range_seen.Goals as goal

pub returns : goal.returns
returns g c =
    let place = g.N.Nav.place c.args._nav.now in
    let low : to_z w64 (of_z w64 c.args.low) ≡ c.args.low = to_z-of_z w64 c.args.low c.ranges.low in
    let high : to_z w64 (of_z w64 c.args.high) ≡ c.args.high = to_z-of_z w64 c.args.high c.ranges.high in
    subst (λ (n : ℤ). Gives (map (item_seen place)) c.range_of.result (range_of n c.args.high)) low
    (subst (λ (m : ℤ). Gives (map (item_seen place)) c.range_of.result (range_of (to_z w64 (of_z w64 c.args.low)) m)) high (c.range_of.ensures place))
