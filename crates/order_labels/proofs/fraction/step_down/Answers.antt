use Rattle.std.proofs.Common.{◌≡◌, ◌++◌, ◌∷◌, [], length, ◌-◌, ◌∙◌, arith, ap, sym, subst, append_assoc, take}
use Rattle.std.proofs.lemmas.Result.{IfOk-weaker}
use Rattle.order_labels.specs.KeyValue.{IsFraction}
use Rattle.order_labels.specs.LabelOrder.{IsBelow}
use Rattle.order_labels.proofs.FractionLemmas.{below_by_last, below_near, last_above_2, length_of_some, fraction_below}
use Rattle.order_labels.proofs.fraction.step_down.Goals as goal

pub returns-then-byte-gt3-clause-below : goal.returns-then-byte-gt3-clause-below
returns-then-byte-gt3-clause-below c =
    let high = c.args.high.now in
    IfOk-weaker c.with_last.result _ _
    (λ v e. subst (λ z. IsBelow z high) (sym e) (below_by_last high (length high - 1) _ [] (length_of_some high c.requires.some) (omega arith)))
    c.with_last.ensures

pub returns-then-byte-gt3-clause-near : goal.returns-then-byte-gt3-clause-near
returns-then-byte-gt3-clause-near c =
    let high = c.args.high.now in
    IfOk-weaker c.with_last.result _ _
    (λ v e low short below. subst (λ z. IsBelow low z) (sym e) (below_near high (length high - 1) _ [] low (length_of_some high c.requires.some) short below))
    c.with_last.ensures

-- what the two bytes are pushed to
lower_is : (c : goal.In_ok-push-2) → c.push-2.new.self.items ≡ take (length c.args.high.now - 1) c.args.high.now ++ 2 ∷ 255 ∷ []
lower_is c =
    c.in_ok-push-2.ensures.items ∙ ap (λ z. z ++ 255 ∷ []) (c.in_ok-push.ensures.items ∙ ap (λ z. z ++ 2 ∷ []) c.in_ok-lower.ensures.items)
    ∙ append_assoc _ (2 ∷ []) (255 ∷ [])

pub returns-clause-fraction : goal.returns-clause-fraction
returns-clause-fraction c =
    subst IsFraction (sym (lower_is c)) (fraction_below c.args.high.now (length c.args.high.now - 1) c.requires.fraction)

pub returns-clause-below : goal.returns-clause-below
returns-clause-below c =
    let high = c.args.high.now in
    subst (λ z. IsBelow z high) (sym (lower_is c))
    (below_by_last high (length high - 1) 2 (255 ∷ []) (length_of_some high c.requires.some)
    (last_above_2 high (length high - 1) c.requires.fraction (length_of_some high c.requires.some)))

pub returns-clause-near : goal.returns-clause-near
returns-clause-near c low short below =
    let high = c.args.high.now in
    subst (λ z. IsBelow low z) (sym (lower_is c))
    (below_near high (length high - 1) 2 (255 ∷ []) low (length_of_some high c.requires.some) short below)
