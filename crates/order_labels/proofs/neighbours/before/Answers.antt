use Rattle.std.proofs.Common.{arith, ap, length}
use Rattle.std.proofs.lemmas.Int.{ints}
use Rattle.std.proofs.lemmas.Result.{IfOk-weaker}
use Rattle.order_labels.specs.KeyValue.{KeyValue}
use Rattle.order_labels.proofs.NeighbourLemmas.{below_by_integer, below_by_fraction, shorter_by_fraction, short_previous, code_beside_least}
use Rattle.order_labels.proofs.neighbours.before.Goals as goal

pub returns-then-integer-eq-LEAST_INTEGER-clause-below :
    goal.returns-then-integer-eq-LEAST_INTEGER-clause-below
returns-then-integer-eq-LEAST_INTEGER-clause-below c =
    below_by_fraction c.from_parts.result c.args.high.now (omega (arith, ints))
    (rw (c.from_parts.ensures.fraction, ← c.fraction.ensures.value) c.in_ok-fraction.ensures.below)

pub returns-then-integer-eq-LEAST_INTEGER-clause-short :
    goal.returns-then-integer-eq-LEAST_INTEGER-clause-short
returns-then-integer-eq-LEAST_INTEGER-clause-short c =
    shorter_by_fraction c.from_parts.result c.args.high.now 1 (omega (arith, ints))
    (omega (arith, ap length c.from_parts.ensures.fraction, ap length c.fraction.ensures.value, c.in_ok-fraction.ensures.short))

pub returns-then-previous-clause-below : goal.returns-then-previous-clause-below
returns-then-previous-clause-below c =
    IfOk-weaker c.least_with_fraction.result _ _
    (λ k h. below_by_integer k c.args.high.now h.0 c.integer.ensures.key (omega (arith, ints, h.1)))
    c.least_with_fraction.ensures.key

pub returns-then-previous-clause-short : goal.returns-then-previous-clause-short
returns-then-previous-clause-short c =
    let beside = code_beside_least c.args.high.now (omega (arith, ints)) in
    IfOk-weaker c.least_with_fraction.result _ _
    (λ k h. omega (arith, h, beside))
    c.least_with_fraction.ensures.length

pub returns-clause-below : goal.returns-clause-below
returns-clause-below c =
    let e = ap (λ (k : KeyValue). k.integer) c.whole.ensures.value in
    below_by_integer c.whole.result c.args.high.now c.whole.ensures.key c.integer-previous.ensures.key (omega (arith, ints, e))

pub returns-clause-short : goal.returns-clause-short
returns-clause-short c =
    short_previous c.whole.result c.args.high.now _ c.integer-previous.ensures.key (omega (arith, ints)) c.whole.ensures.value (omega (arith, ints))
