use Rattle.std.proofs.Common.{arith, ap, length}
use Rattle.std.proofs.lemmas.Int.{ints}
use Rattle.order_labels.proofs.NeighbourLemmas.{below_by_fraction, shorter_by_fraction}
use Rattle.order_labels.proofs.neighbours.higher_fraction.Goals as goal

pub returns-clause-above : goal.returns-clause-above
returns-clause-above c =
    below_by_fraction c.args.low.now c.from_parts.result (omega (arith, ints))
    (rw (c.from_parts.ensures.fraction, ← c.fraction.ensures.value) c.in_ok-fraction.ensures.above)

pub returns-clause-short : goal.returns-clause-short
returns-clause-short c =
    shorter_by_fraction c.from_parts.result c.args.low.now 1 (omega (arith, ints))
    (omega (arith, ap length c.from_parts.ensures.fraction, ap length c.fraction.ensures.value, c.in_ok-fraction.ensures.short))
