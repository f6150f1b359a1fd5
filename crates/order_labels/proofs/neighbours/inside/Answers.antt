use Rattle.std.proofs.Common.{arith, ap, sym, subst, ◌∙◌, length}
use Rattle.std.proofs.lemmas.Int.{ints}
use Rattle.std.proofs.lemmas.Bool.{eqb-false}
use Rattle.std.proofs.lemmas.Result.{IfOk-weaker}
use Rattle.std.specs.Prelude.{◌≤ℤ◌}
use Rattle.order_labels.specs.KeyValue.{KeyValue}
use Rattle.order_labels.specs.LabelOrder.{IsBelow}
use Rattle.order_labels.proofs.NeighbourLemmas.{below_by_integer, below_by_fraction, integers_in_order, empty_below}
use Rattle.order_labels.proofs.neighbours.inside.Goals as goal

pub returns-then-integer-2-clause-below : goal.returns-then-integer-2-clause-below
returns-then-integer-2-clause-below c =
    let e = ap (λ (k : KeyValue). k.integer) c.next_integer.ensures.value in
    below_by_integer c.next_integer.result c.args.high.now c.next_integer.ensures.key c.integer-2.ensures.key (omega (arith, ints, e))

pub returns-then-is_empty-clause-below : goal.returns-then-is_empty-clause-below
returns-then-is_empty-clause-below c =
    let order : c.args.low.now.integer ≤ℤ c.args.high.now.integer =
    integers_in_order c.args.low.now c.args.high.now c.integer.ensures.key c.integer-2.ensures.key c.requires in
    IfOk-weaker c.higher_fraction.result _ _
    (λ k h. below_by_integer k c.args.high.now h.0 c.integer-2.ensures.key (omega (arith, ints, h.1)))
    c.higher_fraction.ensures.key

pub next_integer-requires-2 : goal.next_integer-requires-2
next_integer-requires-2 c =
    let order : c.args.low.now.integer ≤ℤ c.args.high.now.integer =
    integers_in_order c.args.low.now c.args.high.now c.integer.ensures.key c.integer-2.ensures.key c.requires in
    omega (arith, ints, c.integer-2.ensures.key.below_bound)

pub returns-clause-below : goal.returns-clause-below
returns-clause-below c =
    let e = ap (λ (k : KeyValue). k.integer) c.next_integer-2.ensures.value in
    let order : c.args.low.now.integer ≤ℤ c.args.high.now.integer =
    integers_in_order c.args.low.now c.args.high.now c.integer.ensures.key c.integer-2.ensures.key c.requires in
    below_by_fraction c.next_integer-2.result c.args.high.now (omega (arith, ints, e))
    (subst (λ f. IsBelow f c.args.high.now.fraction) (sym (ap (λ (k : KeyValue). k.fraction) c.next_integer-2.ensures.value))
    (empty_below c.args.high.now.fraction
    (λ none. eqb-false (length c.fraction.result.now) 0 (sym c.if-is_empty.ensures) (ap length (c.fraction.ensures.value ∙ none)))))
