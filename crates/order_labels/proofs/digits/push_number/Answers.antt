use Rattle.std.proofs.Common.{append_assoc}
use Rattle.std.proofs.lemmas.Result.{IfOk-equal}
use Rattle.order_labels.proofs.digits.push_number.Goals as goal

pub returns : goal.returns
returns c =
    IfOk-equal _ _ _ _ c.push_digits.ensures
    (rw (c.in_ok-push.ensures.items, c.first_byte.ensures, c.digit_count-count.ensures.count, append_assoc))
