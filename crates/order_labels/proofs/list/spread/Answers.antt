use Rattle.std.proofs.Common.{◌≡◌, pos, arith, ap, sym, subst, ◌∙◌}
use Rattle.std.proofs.lemmas.Int.{ints}
use Rattle.order_labels.specs.KeyValue.{whole}
use Rattle.order_labels.specs.Insertions.{first_keys, IsRising}
use Rattle.order_labels.proofs.InsertionLemmas.{first_keys-next, first_keys_rise}
use Rattle.order_labels.proofs.list.spread.Goals as goal

pub loop-integer-preserved : goal.loop-integer-preserved
loop-integer-preserved c =
    let key : c.whole.result ≡ whole (pos c.loop-integer.integer) = c.whole.ensures.value ∙ ap whole (omega (arith, ints)) in
    c.in_ok-push.ensures.items ∙ rw (c.loop-integer.invariant, key) (sym (first_keys-next c.loop-integer.integer))

-- the loop has gone over all
all_keys : (c : goal.After-loop-integer) → c.loop-integer.keys.items ≡ first_keys c.args.count
all_keys c = let last : c.loop-integer.integer ≡ c.args.count = omega arith in c.loop-integer.invariant ∙ ap first_keys last

pub returns-clause-keys : goal.returns-clause-keys
returns-clause-keys c = all_keys c

pub returns-clause-rising : goal.returns-clause-rising
returns-clause-rising c = subst IsRising (sym (all_keys c)) (first_keys_rise c.args.count (omega arith))
