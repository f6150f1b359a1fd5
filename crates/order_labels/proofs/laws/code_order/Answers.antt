use Rattle.order_labels.proofs.CodeOrder.{below_from_lower, lower_from_below, same_from_code}
use Rattle.order_labels.proofs.CodeBytes.{code_in_range}
use Rattle.order_labels.proofs.DigitLemmas.{digit_count-pos, digit_count-holds, digit_count-least}
use Rattle.order_labels.proofs.laws.code_order.Goals as goal

pub returns : goal.returns
returns c = record {
  digits = λ i h. record { at_least_1 = digit_count-pos i; enough = digit_count-holds i h; least = digit_count-least i };
  order = λ a b p q. (lower_from_below a b p q, below_from_lower a b p q);
  one_key = same_from_code;
  bytes = code_in_range;
}
