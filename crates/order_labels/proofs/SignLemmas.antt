-- What the parts of an integer's code are, by its sign.
use Rattle.std.proofs.Common.{◌≡◌, ℕ, ℤ, pos, negsuc, sym, ap}
use Rattle.order_labels.specs.LabelOrder.{integer_code}
use Rattle.order_labels.specs.Sign.{number_code}
use Rattle.order_labels.specs.declared.digits.Sign.TheVariants.{FromZero, Negative}

-- an integer from 0 on
pub number_code-from_zero : (i : ℤ) (n : ℕ) → i ≡ pos n → number_code FromZero n ≡ integer_code i
unfolding integer_code
number_code-from_zero i n e = sym (ap integer_code e)

-- an integer below 0
pub number_code-negative : (i : ℤ) (w : ℕ) → i ≡ negsuc w → number_code Negative w ≡ integer_code i
unfolding integer_code
number_code-negative i w e = sym (ap integer_code e)
