-- How the parts of an integer's code are written, by the integer's sign.
use Rattle.std.specs.Prelude.{ℕ, ◌+◌, ◌-◌, List, ◌∷◌, map}
use Rattle.order_labels.specs.declared.digits.Sign.{Sign}
use Rattle.order_labels.specs.declared.digits.Sign.TheVariants.{FromZero, Negative}
use Rattle.order_labels.specs.LabelOrder.{digit_count, digits}

-- the first byte for so many digits
abbrev pub first_byte : Sign → ℕ → ℕ
first_byte FromZero n = 128 + n
first_byte Negative n = 128 - n

-- the byte of a digit
abbrev pub digit_byte : Sign → ℕ → ℕ
digit_byte FromZero d = d + 2
digit_byte Negative d = 255 - d

-- the first byte and the digits of a number
abbrev pub number_code : Sign → ℕ → List ℕ
number_code sign i = first_byte sign (digit_count i) ∷ map (digit_byte sign) (digits (digit_count i) i)
