use Rattle.std.proofs.Common.{[], ◌-◌, arith, sym, subst}
use Rattle.std.proofs.lemmas.Result.{IfOk-weaker}
use Rattle.order_labels.specs.LabelOrder.{IsBelow}
use Rattle.order_labels.proofs.ByteOrder.{below_longer}
use Rattle.order_labels.proofs.FractionLemmas.{above_by_byte}
use Rattle.order_labels.proofs.fraction.step_up.Goals as goal

pub returns-then-byte-lt255-clause-above : goal.returns-then-byte-lt255-clause-above
returns-then-byte-lt255-clause-above c =
    let low = c.args.low.now in
    IfOk-weaker c.with_last.result _ _
    (λ v e. subst (λ z. IsBelow low z) (sym e) (above_by_byte low (c.loop-at.at - 1) _ [] (omega arith) (omega arith)))
    c.with_last.ensures

pub returns-clause-above : goal.returns-clause-above
returns-clause-above c =
    IfOk-weaker c.with_last-2.result _ _
    (λ v e. subst (λ z. IsBelow c.args.low.now z) (sym e) (below_longer c.args.low.now 128 []))
    c.with_last-2.ensures
