-- No byte of a code is 0 or 1.
use Rattle.std.proofs.Common.{◌≡◌, ℕ, zero, suc, ◌+◌, ◌-◌, ◌^◌, ◌/◌, ◌%◌, ◌<◌, ℤ, pos, negsuc, map, arith, refl}
use Rattle.std.specs.Prelude.{All}
use Rattle.std.proofs.lemmas.Int.{ints}
use Rattle.std.proofs.lemmas.List.Elements.{All-nil, All-cons, All-append}
use Rattle.order_labels.specs.KeyValue.{KeyValue, IsKey}
use Rattle.order_labels.specs.LabelOrder.{digits, digit_count, integer_code, code}
use Rattle.order_labels.proofs.DigitLemmas.{first_digit, remainder_below, digit_count-max, digit_count-holds}
use Rattle.order_labels.proofs.FractionLemmas.{InRange}

-- the bytes of the digits, where each digit has a byte from 2 to 255
digits_in_range : (f : ℕ → ℕ) → ((d : ℕ) → d < 254 → InRange (f d)) → (n i : ℕ) → i < 254 ^ n → All InRange (map f (digits n i))
digits_in_range f r zero i h = All-nil InRange
digits_in_range f r (suc n) i h =
    All-cons InRange (f (i / 254 ^ n)) (map f (digits n (i % 254 ^ n))) (r (i / 254 ^ n) (first_digit n i h))
    (digits_in_range f r n (i % 254 ^ n) (remainder_below n i))

-- the bytes of an integer's part
integer_in_range : (k : KeyValue) (i : ℤ) → k.integer ≡ i → IsKey k → All InRange (integer_code i)
unfolding integer_code
integer_in_range k (pos i) e p =
    let small : i < 254 ^ 7 = omega (arith, ints, p.below_bound) in
    All-cons InRange (128 + digit_count i) (map (λ d. d + 2) (digits (digit_count i) i)) (omega arith, omega (arith, digit_count-max i small))
    (digits_in_range (λ d. d + 2) (λ d h. (omega arith, omega arith)) (digit_count i) i (digit_count-holds i small))
integer_in_range k (negsuc w) e p =
    let small : w < 254 ^ 7 = omega (arith, ints, p.from_least) in
    All-cons InRange (128 - digit_count w) (map (λ d. 255 - d) (digits (digit_count w) w)) (omega (arith, digit_count-max w small), omega arith)
    (digits_in_range (λ d. 255 - d) (λ d h. (omega arith, omega arith)) (digit_count w) w (digit_count-holds w small))

-- each byte of a code is from 2 to 255
pub code_in_range : (k : KeyValue) → IsKey k → All InRange (code k)
unfolding code
code_in_range k p = All-append InRange (integer_code k.integer) k.fraction (integer_in_range k k.integer refl p) p.fraction.bytes_in_range
