use Rattle.std.proofs.Common.{◌++◌, ap, arith}
use Rattle.std.proofs.lemmas.Int.{ints}
use Rattle.std.proofs.lemmas.Result.{IfOk-equal}
use Rattle.order_labels.proofs.SignLemmas.{number_code-from_zero, number_code-negative}
use Rattle.order_labels.proofs.key.push_integer.Goals as goal

pub returns-then-integer-ge0 : goal.returns-then-integer-ge0
returns-then-integer-ge0 c =
    IfOk-equal _ _ _ _ c.push_number.ensures
    (ap (λ z. c.args.out.now.items ++ z) (number_code-from_zero c.args.integer _ (omega (arith, ints))))

pub returns-else-integer-ge0 : goal.returns-else-integer-ge0
returns-else-integer-ge0 c =
    IfOk-equal _ _ _ _ c.push_number-else-integer-ge0.ensures
    (ap (λ z. c.args.out.now.items ++ z) (number_code-negative c.args.integer _ (omega (arith, ints))))
