use Rattle.std.proofs.Common.{◌∷◌, [], arith, sym, subst}
use Rattle.std.proofs.lemmas.Result.{IfOk-weaker}
use Rattle.order_labels.specs.LabelOrder.{IsBelow}
use Rattle.order_labels.proofs.ByteOrder.{below_longer, below_with_more}
use Rattle.order_labels.proofs.fraction.between_fractions.Goals as goal

pub returns-clause-above : goal.returns-clause-above
returns-clause-above c =
    IfOk-weaker c.with_last.result _ _
    (λ v e. subst (λ z. IsBelow c.args.low.now z) (sym e) (below_longer c.args.low.now 128 []))
    c.with_last.ensures

pub returns-clause-below : goal.returns-clause-below
returns-clause-below c =
    IfOk-weaker c.with_last.result _ _
    (λ v e. subst (λ z. IsBelow z c.args.high.now) (sym e) (below_with_more c.args.low.now c.args.high.now (128 ∷ []) (omega arith) c.requires.in_order))
    c.with_last.ensures
