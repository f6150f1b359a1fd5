use Rattle.std.proofs.Common.{arith, ap, ◌∙◌}
use Rattle.std.proofs.lemmas.Int.{ints}
use Rattle.order_labels.specs.KeyValue.{KeyValue, whole}
use Rattle.order_labels.proofs.NeighbourLemmas.{below_by_integer, short_next}
use Rattle.order_labels.proofs.neighbours.next_integer.Goals as goal

pub returns : goal.returns
returns c =
    let e = ap (λ (k : KeyValue). k.integer) c.whole.ensures.value in
    record {
      value = c.whole.ensures.value ∙ ap whole (omega (arith, ints));
      key = c.whole.ensures.key;
      above = below_by_integer c.args.low.now c.whole.result c.integer.ensures.key c.whole.ensures.key (omega (arith, ints, e));
      short = short_next c.whole.result c.args.low.now _ c.integer.ensures.key c.whole.ensures.value (omega (arith, ints));
    }
