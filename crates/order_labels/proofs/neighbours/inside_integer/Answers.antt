use Rattle.std.proofs.Common.{arith, ap, length}
use Rattle.std.proofs.lemmas.Int.{ints}
use Rattle.order_labels.proofs.NeighbourLemmas.{below_by_fraction, fractions_in_order, short_beside}
use Rattle.order_labels.proofs.neighbours.inside_integer.Goals as goal

pub between_fractions-requires-clause-in_order : goal.between_fractions-requires-clause-in_order
between_fractions-requires-clause-in_order c =
    rw (c.fraction.ensures.value, c.fraction-2.ensures.value)
    (fractions_in_order c.args.low.now c.args.high.now c.fraction.ensures.key c.fraction-2.ensures.key c.requires.same c.requires.in_order)

pub returns-clause-above : goal.returns-clause-above
returns-clause-above c =
    below_by_fraction c.args.low.now c.from_parts.result (omega (arith, ints))
    (rw (c.from_parts.ensures.fraction, ← c.fraction.ensures.value) c.in_ok-fraction.ensures.above)

pub returns-clause-below : goal.returns-clause-below
returns-clause-below c =
    below_by_fraction c.from_parts.result c.args.high.now (omega (arith, ints))
    (rw (c.from_parts.ensures.fraction, ← c.fraction-2.ensures.value) c.in_ok-fraction.ensures.below)

pub returns-clause-short : goal.returns-clause-short
returns-clause-short c =
    short_beside c.from_parts.result c.args.low.now c.args.high.now (omega (arith, ints)) (omega (arith, ints))
    (omega (
      arith,
      ap length c.from_parts.ensures.fraction,
      ap length c.fraction.ensures.value,
      ap length
          c.fraction-2.ensures.value,
      c.in_ok-fraction.ensures.short,
    ))
