use Rattle.std.proofs.Common.{◌∙◌, sym}
use Rattle.std.proofs.lemmas.Result.{IfOk-weaker}
use Rattle.order_labels.specs.LabelOrder.{code}
use Rattle.order_labels.proofs.LabelLemmas.{one_code, none_weaker}
use Rattle.order_labels.proofs.label.key_of_child.Goals as goal

pub returns-in-Some-clause-none : goal.returns-in-Some-clause-none
returns-in-Some-clause-none c =
    let some = rw (c.as_bytes-2.ensures, c.as_bytes.ensures) at c.in-Some.ensures.some in
    IfOk-weaker c.key_from_code.result _ _
    (λ found. none_weaker found _ _ (λ h k p e. h k p (one_code c.args.parent.now (code k) c.in-Some.code.now (sym e ∙ some))))
    c.key_from_code.ensures.none
