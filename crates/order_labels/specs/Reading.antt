-- What some bytes are read as, whether or not they are a code: a code is read as its key.
use Rattle.std.specs.Prelude.{ℕ, ◌+◌, ◌-◌, ◌*◌, ◌^◌, min, nat_lt, if◌then◌else◌, ℤ, pos, negsuc, List, [], ◌∷◌, length, take, drop}
use Rattle.order_labels.specs.declared.digits.Sign.{Sign}
use Rattle.order_labels.specs.declared.digits.Sign.TheVariants.{FromZero, Negative}
use Rattle.order_labels.specs.KeyValue.{KeyValue, whole}

-- the sign that the first byte says
abbrev pub sign_of : ℕ → Sign
sign_of first = if nat_lt first 128 then Negative else FromZero

-- how many digits it says, 7 at most
abbrev pub count_of : ℕ → ℕ
count_of first = if nat_lt first 128 then min (128 - first) 7 else min (first - 128) 7

-- the digit that a byte says, below 254
abbrev pub digit_of : Sign → ℕ → ℕ
digit_of FromZero b = min (b - 2) 253
digit_of Negative b = min (255 - b) 253

-- the number with these bytes for digits
abbrev pub number_of : Sign → List ℕ → ℕ
number_of sign [] = 0
number_of sign (b ∷ bs) = digit_of sign b * 254 ^ length bs + number_of sign bs

-- the integer of a number
abbrev pub integer_of : Sign → ℕ → ℤ
integer_of FromZero i = pos i
integer_of Negative w = negsuc w

-- the integer and the fraction that the bytes say
unfoldable pub read_key : List ℕ → KeyValue
read_key [] = whole (pos 0)
read_key (first ∷ rest) =
    record { integer = integer_of (sign_of first) (number_of (sign_of first) (take (count_of first) rest)); fraction = drop (count_of first) rest }
