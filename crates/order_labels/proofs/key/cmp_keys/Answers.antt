use Rattle.std.proofs.Common.{◌≡◌, arith, sym}
use Rattle.std.proofs.lemmas.Int.{ints}
use Rattle.order_labels.proofs.NeighbourLemmas.{below_by_integer, above_by_integer, byte_order-code}
use Rattle.order_labels.proofs.key.cmp_keys.Goals as goal

pub returns-then-integer : goal.returns-then-integer
returns-then-integer c =
    sym (below_by_integer c.args.a.now c.args.b.now c.integer.ensures.key c.integer-2.ensures.key (omega (arith, ints)))

pub returns-then-integer-2 : goal.returns-then-integer-2
returns-then-integer-2 c =
    sym (above_by_integer c.args.a.now c.args.b.now c.integer.ensures.key c.integer-2.ensures.key (omega (arith, ints)))

pub returns : goal.returns
returns c =
    let same : c.args.a.now.integer ≡ c.args.b.now.integer = omega (arith, ints) in
    rw (byte_order-code c.args.a.now c.args.b.now same, ← c.fraction.ensures.value, ← c.fraction-2.ensures.value) c.compare.ensures
