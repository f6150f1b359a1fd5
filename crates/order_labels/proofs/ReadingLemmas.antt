-- A code is read as its key.
use Rattle.std.proofs.Common.{◌≡◌, ℕ, zero, suc, ◌+◌, ◌-◌, ◌*◌, ◌^◌, ◌/◌, ◌%◌, ◌<◌, ◌≤◌, min, ltb, ℤ, pos, negsuc, List, [], ◌∷◌, ◌++◌, length, get_or, take, drop, map, refl, sym, ◌∙◌, ap, arith, add-one}
use Rattle.std.proofs.lemmas.Int.{ints}
use Rattle.std.proofs.lemmas.Bool.{cond-true, cond-false, lt-ltb, le-ltb}
use Rattle.std.proofs.lemmas.List.{take_at, drop_at, take_all, take_min, drop_min, take_rest, length-take, length-drop}
use Rattle.std.proofs.lemmas.Nat.{div-add-mod', mul-add-lt}
use Rattle.order_labels.specs.declared.digits.Sign.{Sign}
use Rattle.order_labels.specs.declared.digits.Sign.TheVariants.{FromZero, Negative}
use Rattle.order_labels.specs.KeyValue.{KeyValue, IsKey, whole}
use Rattle.order_labels.specs.LabelOrder.{digits, digit_count, integer_code, code}
use Rattle.order_labels.specs.Sign.{first_byte, digit_byte, number_code}
use Rattle.order_labels.specs.Reading.{sign_of, count_of, digit_of, number_of, integer_of, read_key}
use Rattle.order_labels.proofs.DigitLemmas.{first_digit, remainder_below, length-digits, digit_count-pos, digit_count-max, digit_count-holds, power-one_more, power_rises}

-- a digit's byte says the digit
digit_of-byte : (sign : Sign) (d : ℕ) → d < 254 → digit_of sign (digit_byte sign d) ≡ d
digit_of-byte FromZero d h = omega arith
digit_of-byte Negative d h = omega arith

-- the bytes of a number's digits say the number
number_of-digits : (sign : Sign) (n i : ℕ) → i < 254 ^ n → number_of sign (map (digit_byte sign) (digits n i)) ≡ i
number_of-digits sign zero i h = omega arith
number_of-digits sign (suc n) i h =
    let first = digit_of-byte sign (i / 254 ^ n) (first_digit n i h) in
    let rest = number_of-digits sign n (i % 254 ^ n) (remainder_below n i) in
    rw (length-digits (digit_byte sign) n (i % 254 ^ n), first, rest) (div-add-mod' i (254 ^ n))

-- a digit is below 254
digit_of-below : (sign : Sign) (b : ℕ) → digit_of sign b < 254
digit_of-below FromZero b = omega arith
digit_of-below Negative b = omega arith

-- a digit before n others makes a number of n + 1 digits
pub term_below : (d n r : ℕ) → d < 254 → r < 254 ^ n → d * 254 ^ n + r < 254 ^ (n + 1)
term_below d n r h g = omega (arith, mul-add-lt d (254 ^ n) r 254 h g, power-one_more n)

-- the number that some bytes say has no more digits than there are bytes
pub number_of-below : (sign : Sign) (bs : List ℕ) → number_of sign bs < 254 ^ length bs
number_of-below sign [] = omega arith
number_of-below sign (b ∷ bs) = rw add-one at (term_below (digit_of sign b) (length bs) (number_of sign bs) (digit_of-below sign b) (number_of-below sign bs))

-- the first byte says the sign
sign_of-first : (sign : Sign) (n : ℕ) → 1 ≤ n → n ≤ 7 → sign_of (first_byte sign n) ≡ sign
sign_of-first FromZero n lo hi = cond-false (ltb (128 + n) 128) Negative FromZero (le-ltb (128 + n) 128 (omega arith))
sign_of-first Negative n lo hi = cond-true (ltb (128 - n) 128) Negative FromZero (lt-ltb (128 - n) 128 (omega arith))

-- the first byte says how many digits there are
count_of-first : (sign : Sign) (n : ℕ) → 1 ≤ n → n ≤ 7 → count_of (first_byte sign n) ≡ n
count_of-first FromZero n lo hi =
    cond-false (ltb (128 + n) 128) (min (128 - (128 + n)) 7) (min ((128 + n) - 128) 7) (le-ltb (128 + n) 128 (omega arith)) ∙ omega arith
count_of-first Negative n lo hi =
    cond-true (ltb (128 - n) 128) (min (128 - (128 - n)) 7) (min ((128 - n) - 128) 7) (lt-ltb (128 - n) 128 (omega arith)) ∙ omega arith

-- a number's code and what follows it are read as the number and that
read_key-number : (sign : Sign) (i : ℕ) (f : List ℕ) → i < 254 ^ 7 → read_key (number_code sign i ++ f) ≡ record { integer = integer_of sign i; fraction = f }
unfolding read_key
read_key-number sign i f h =
    let signs = sign_of-first sign (digit_count i) (digit_count-pos i) (digit_count-max i h) in
    let counts = count_of-first sign (digit_count i) (digit_count-pos i) (digit_count-max i h) in
    let front = take_at (map (digit_byte sign) (digits (digit_count i) i)) f (digit_count i) (length-digits (digit_byte sign) (digit_count i) i) in
    let back = drop_at (map (digit_byte sign) (digits (digit_count i) i)) f (digit_count i) (length-digits (digit_byte sign) (digit_count i) i) in
    rw (signs, counts, front, back, number_of-digits sign (digit_count i) i (digit_count-holds i h)) refl

-- what a code is read as
pub read_key-code : (k : KeyValue) → IsKey k → read_key (code k) ≡ k
unfolding code integer_code
read_key-code k p = by k.integer refl
  where
    by : (i : ℤ) → k.integer ≡ i → read_key (integer_code i ++ k.fraction) ≡ record { integer = i; fraction = k.fraction }
    by (pos i) e = read_key-number FromZero i k.fraction (omega (arith, ints, p.below_bound))
    by (negsuc w) e = read_key-number Negative w k.fraction (omega (arith, ints, p.from_least))

-- no bytes are read as 0
pub read_key-nil : (bytes : List ℕ) → length bytes ≡ 0 → read_key bytes ≡ whole (pos 0)
unfolding read_key
read_key-nil [] h = refl
read_key-nil (b ∷ bs) h = absurd (omega arith)

-- a slice from the second byte on
abbrev pub tail_of : List ℕ → List ℕ
tail_of bytes = take (length bytes - 1) (drop 1 bytes)

tail_of-cons : (b : ℕ) (bs : List ℕ) → tail_of (b ∷ bs) ≡ bs
tail_of-cons b bs = take_all (length (b ∷ bs) - 1) bs (omega arith)

-- as many first bytes as there are of n
front_read : (n m : ℕ) (xs ys : List ℕ) → ys ≡ xs → m ≡ min n (length ys) → take m ys ≡ take n xs
front_read n m xs ys e h = ap (λ k. take k ys) h ∙ take_min n ys ∙ ap (take n) e

-- what follows as many first bytes as there are of n
back_read : (n m : ℕ) (xs ys : List ℕ) → ys ≡ xs → m ≡ min n (length ys) → take (length ys - m) (drop m ys) ≡ drop n xs
back_read n m xs ys e h = take_rest ys m ∙ ap (λ k. drop k ys) h ∙ drop_min n ys ∙ ap (drop n) e

-- the integer that is read, by the first byte and the digits
pub integer_read : (bytes : List ℕ) (m : ℕ) → (length bytes ≡ 0 → ⊥) → m ≡ min (count_of (get_or bytes 0 0)) (length (tail_of bytes))
    → integer_of (sign_of (get_or bytes 0 0)) (number_of (sign_of (get_or bytes 0 0)) (take m (tail_of bytes))) ≡ (read_key bytes).integer
unfolding read_key
integer_read [] m some h = absurd (some refl)
integer_read (b ∷ bs) m some h =
    ap (λ ds. integer_of (sign_of b) (number_of (sign_of b) ds)) (front_read (count_of b) m bs (tail_of (b ∷ bs)) (tail_of-cons b bs) h)

-- the fraction that is read
pub fraction_read : (bytes : List ℕ) (m : ℕ) → (length bytes ≡ 0 → ⊥) → m ≡ min (count_of (get_or bytes 0 0)) (length (tail_of bytes))
    → take (length (tail_of bytes) - m) (drop m (tail_of bytes)) ≡ (read_key bytes).fraction
unfolding read_key
fraction_read [] m some h = absurd (some refl)
fraction_read (b ∷ bs) m some h = back_read (count_of b) m bs (tail_of (b ∷ bs)) (tail_of-cons b bs) h

-- the bytes of a key's code are read as the key
pub read_key-of : (bytes : List ℕ) (k : KeyValue) → IsKey k → code k ≡ bytes → read_key bytes ≡ k
read_key-of bytes k p e = ap read_key (sym e) ∙ read_key-code k p

-- the slice has one byte less
pub length-tail_of : (bytes : List ℕ) → length (tail_of bytes) ≡ length bytes - 1
length-tail_of bytes = omega (arith, length-take (length bytes - 1) (drop 1 bytes), length-drop 1 bytes)

-- one more digit before a number keeps within 7 digits
pub number_fits : (d p r n len : ℕ) → d < 254 → p ≡ 254 ^ n → r < 254 ^ n → len ≡ n + 1 → len ≤ 7 → (d * p + r < 254 ^ len) × (254 ^ len ≤ 254 ^ 7)
number_fits d p r n len hd hp hr hl h7 = (rw (hp, hl) (term_below d n r hd hr), power_rises len 7 h7)
