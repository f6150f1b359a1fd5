use Rattle.std.proofs.Common.{◌≡◌, ◌-◌, ◌∙◌, arith, refl, subst}
use Rattle.order_labels.specs.LabelOrder.{digit_count, digit_count_from}
use Rattle.order_labels.proofs.DigitLemmas.{power_fits, count_step, count_stop}
use Rattle.order_labels.proofs.digits.digit_count.Goals as goal

pub loop-count-init : goal.loop-count-init
unfolding digit_count
loop-count-init c = refl

pub pow-requires : goal.pow-requires
pow-requires c = power_fits c.loop-count.count (omega arith)

pub loop-count-preserved : goal.loop-count-preserved
loop-count-preserved c =
    count_step c.loop-count.count c.args.number (omega arith) (omega (arith, c.pow.ensures)) ∙ c.loop-count.invariant

pub returns-then-number-pow : goal.returns-then-number-pow
returns-then-number-pow c = record {
  count = count_stop c.loop-count.count c.args.number (omega arith) (omega (arith, c.pow.ensures)) ∙ c.loop-count.invariant;
  few = omega arith;
  enough = omega (arith, c.pow.ensures);
}

pub returns : goal.returns
returns c =
    let last : c.loop-count.count ≡ 7 = omega arith in
    record {
      count = subst (λ n. digit_count_from (7 - n) n c.args.number ≡ digit_count c.args.number) last c.loop-count.invariant;
      few = omega arith;
      enough = c.requires;
    }
