-- The order of codes is the order of keys by integer and fraction; the lengths of codes.
use Rattle.std.proofs.Common.{◌≡◌, ℕ, zero, suc, ◌+◌, ◌-◌, ◌^◌, ◌<◌, ◌≤◌, ℤ, pos, negsuc, List, ◌++◌, length, map, refl, sym, ◌∙◌, ap, subst, arith, ◌⊎◌, inl, inr, length-append}
use Rattle.std.specs.Prelude.{◌+ℤ◌, ◌-ℤ◌, ◌<ℤ◌, ◌≤ℤ◌}
use Rattle.std.proofs.lemmas.Int.{ints, by_lt_z}
use Rattle.std.proofs.lemmas.Bool.{cases_order}
use Rattle.std.proofs.lemmas.List.{append_cancel_left}
use Rattle.order_labels.specs.KeyValue.{KeyValue, IsKey, least_integer}
use Rattle.order_labels.specs.LabelOrder.{digits, digit_count, integer_code, code, IsBelow, IsKeyBelow, IsLower}
use Rattle.order_labels.proofs.ByteOrder.{below_by_byte, below_by_heads, byte_order-front, not_below_both, not_below_itself}
use Rattle.order_labels.proofs.DigitLemmas.{digits_rise, digits_fall, length-digits, digit_count-pos, digit_count-holds, digit_count-max, digit_count-mono, digit_count-next}

-- how a digit is written in the codes of numbers from 0 on, and below 0
abbrev pub raised : ℕ → ℕ
raised d = d + 2

-- a digit in the code of a number below 0
abbrev pub lowered : ℕ → ℕ
lowered d = 255 - d

-- the lower of two numbers from 0 on has the lower code, whatever follows
naturals_rise : (i j : ℕ) → i < j → j < 254 ^ 7 → (xs ys : List ℕ) → IsBelow (integer_code (pos i) ++ xs) (integer_code (pos j) ++ ys)
unfolding integer_code
naturals_rise i j l h xs ys =
    below_by_heads (128 + digit_count i) (128 + digit_count j) (map raised (digits (digit_count i) i) ++ xs) (map raised (digits (digit_count j) j) ++ ys)
    (by (cases_order (digit_count i) (digit_count j)) (digit_count-mono i j (omega arith) h))
  where
    by : (digit_count i ≡ digit_count j) ⊎ ((digit_count i < digit_count j) ⊎ (digit_count j < digit_count i)) → digit_count i ≤ digit_count j
        → (128 + digit_count i < 128 + digit_count j)
        ⊎ ((128 + digit_count i ≡ 128 + digit_count j) × IsBelow (map raised (digits (digit_count i) i) ++ xs) (map raised (digits (digit_count j) j) ++ ys))
    by (inl e) m =
        inr (
          ap (λ n. 128 + n) e,
          subst (λ n. IsBelow (map raised (digits n i) ++ xs) (map raised (digits (digit_count j) j) ++ ys)) (sym e)
              (digits_rise raised (λ d e l b. omega arith) (digit_count j) i j xs ys l (digit_count-holds j h)),
        )
    by (inr (inl less)) m = inl (omega arith)
    by (inr (inr more)) m = absurd (omega arith)

-- the lower of two numbers below 0 has the lower code, whatever follows
negatives_rise : (w v : ℕ) → v < w → w < 254 ^ 7 → (xs ys : List ℕ) → IsBelow (integer_code (negsuc w) ++ xs) (integer_code (negsuc v) ++ ys)
unfolding integer_code
negatives_rise w v l h xs ys =
    below_by_heads (128 - digit_count w) (128 - digit_count v) (map lowered (digits (digit_count w) w) ++ xs) (map lowered (digits (digit_count v) v) ++ ys)
    (by (cases_order (digit_count v) (digit_count w)) (digit_count-mono v w (omega arith) h) (digit_count-max w h))
  where
    by : (digit_count v ≡ digit_count w) ⊎ ((digit_count v < digit_count w) ⊎ (digit_count w < digit_count v)) → digit_count v ≤ digit_count w
        → digit_count w ≤ 7 → (128 - digit_count w < 128 - digit_count v)
        ⊎ ((128 - digit_count w ≡ 128 - digit_count v) × IsBelow (map lowered (digits (digit_count w) w) ++ xs) (map lowered (digits (digit_count v) v) ++ ys))
    by (inl e) m s =
        inr (
          ap (λ n. 128 - n) (sym e),
          subst (λ n. IsBelow (map lowered (digits (digit_count w) w) ++ xs) (map lowered (digits n v) ++ ys)) (sym e)
              (digits_fall lowered (λ d e l b. omega arith) (digit_count w) v w ys xs l (digit_count-holds w h)),
        )
    by (inr (inl less)) m s = inl (omega arith)
    by (inr (inr more)) m s = absurd (omega arith)

-- a number below 0 has a lower code than one from 0 on, whatever follows
negative_below : (w j : ℕ) (xs ys : List ℕ) → IsBelow (integer_code (negsuc w) ++ xs) (integer_code (pos j) ++ ys)
unfolding integer_code
negative_below w j xs ys =
    below_by_byte (128 - digit_count w) (128 + digit_count j) (map lowered (digits (digit_count w) w) ++ xs) (map raised (digits (digit_count j) j) ++ ys)
    (omega (arith, digit_count-pos w, digit_count-pos j))

-- the lower of two integers has the lower code, whatever follows
pub integers_rise : (i j : ℤ) → i <ℤ j → least_integer ≤ℤ i → j <ℤ pos (254 ^ 7) → (xs ys : List ℕ) → IsBelow (integer_code i ++ xs) (integer_code j ++ ys)
integers_rise (pos i) (pos j) l lo hi xs ys = naturals_rise i j (omega (arith, ints)) (omega (arith, ints)) xs ys
integers_rise (pos i) (negsuc v) l lo hi xs ys = absurd (omega (arith, ints))
integers_rise (negsuc w) (pos j) l lo hi xs ys = negative_below w j xs ys
integers_rise (negsuc w) (negsuc v) l lo hi xs ys = negatives_rise w v (omega (arith, ints)) (omega (arith, ints)) xs ys

-- a code is its integer's part and the fraction
pub code-parts : (k : KeyValue) → code k ≡ integer_code k.integer ++ k.fraction
unfolding code
code-parts k = refl

-- keys in order by integer and fraction have their codes in order
pub below_from_lower : (a b : KeyValue) → IsKey a → IsKey b → IsLower a b → IsKeyBelow a b
unfolding code
below_from_lower a b p q (inl l) = integers_rise a.integer b.integer l p.from_least q.below_bound a.fraction b.fraction
below_from_lower a b p q (inr r) =
    subst (λ i. IsBelow (integer_code a.integer ++ a.fraction) (integer_code i ++ b.fraction)) r.0
    (byte_order-front (integer_code a.integer) a.fraction b.fraction ∙ r.1)

-- two integers are in one order, or equal, or in the other
order_of_integers : (i j : ℤ) → (i <ℤ j) ⊎ ((i ≡ j) ⊎ (j <ℤ i))
order_of_integers i j =
    by_lt_z i j inl (λ up. inr (by_lt_z j i inr (λ down. inl (omega (arith, ints)))))

-- keys with their codes in order are in order by integer and fraction
pub lower_from_below : (a b : KeyValue) → IsKey a → IsKey b → IsKeyBelow a b → IsLower a b
unfolding code
lower_from_below a b p q h = by (order_of_integers a.integer b.integer)
  where
    by : (a.integer <ℤ b.integer) ⊎ ((a.integer ≡ b.integer) ⊎ (b.integer <ℤ a.integer)) → IsLower a b
    by (inl l) = inl l
    by (inr (inl e)) =
        inr (
          e,
          sym (byte_order-front (integer_code a.integer) a.fraction b.fraction)
              ∙ subst (λ i. IsBelow (integer_code a.integer ++ a.fraction) (integer_code i ++ b.fraction)) (sym e) h,
        )
    by (inr (inr g)) =
        absurd (not_below_both (code a) (code b) h (integers_rise b.integer a.integer g q.from_least p.below_bound b.fraction a.fraction))

-- how many bytes an integer's part has
pub integer_size : ℤ → ℕ
integer_size (pos i) = digit_count i + 1
integer_size (negsuc w) = digit_count w + 1

length-integer_code : (i : ℤ) → length (integer_code i) ≡ integer_size i
unfolding integer_code integer_size
length-integer_code (pos i) = omega (arith, length-digits (λ d. d + 2) (digit_count i) i)
length-integer_code (negsuc w) = omega (arith, length-digits (λ d. 255 - d) (digit_count w) w)

-- how many bytes a code has
pub length-code : (k : KeyValue) → length (code k) ≡ integer_size k.integer + length k.fraction
unfolding code
length-code k = omega (arith, length-append (integer_code k.integer) k.fraction, length-integer_code k.integer)

-- the next integer's part is one byte longer at most
pub integer_size-next : (i : ℤ) → least_integer ≤ℤ i → i <ℤ pos (254 ^ 7) → integer_size (i +ℤ pos 1) ≤ integer_size i + 1
unfolding integer_size
integer_size-next (pos i) lo hi = omega (arith, digit_count-next i (omega (arith, ints)))
integer_size-next (negsuc zero) lo hi = omega arith
integer_size-next (negsuc (suc w)) lo hi =
    let e : negsuc (suc w) +ℤ pos 1 ≡ negsuc w = omega (arith, ints) in
    subst (λ z. integer_size z ≤ digit_count (suc w) + 1 + 1) (sym e) (omega (arith, digit_count-mono w (suc w) (omega arith) (omega (arith, ints))))

-- the part of the integer before is one byte longer at most
pub integer_size-previous : (i : ℤ) → least_integer <ℤ i → i <ℤ pos (254 ^ 7) → integer_size (i -ℤ pos 1) ≤ integer_size i + 1
unfolding integer_size
integer_size-previous (pos zero) lo hi = omega arith
integer_size-previous (pos (suc i)) lo hi =
    let e : pos (suc i) -ℤ pos 1 ≡ pos i = omega (arith, ints) in
    subst (λ z. integer_size z ≤ digit_count (suc i) + 1 + 1) (sym e) (omega (arith, digit_count-mono i (suc i) (omega arith) (omega (arith, ints))))
integer_size-previous (negsuc w) lo hi =
    let e : negsuc w -ℤ pos 1 ≡ negsuc (w + 1) = omega (arith, ints) in
    subst (λ z. integer_size z ≤ digit_count w + 1 + 1) (sym e) (omega (arith, digit_count-next w (omega (arith, ints))))

-- the least integer's part has 8 bytes
pub integer_size-least : integer_size least_integer ≡ 8
unfolding integer_size digit_count
integer_size-least = refl

-- so has that of the integer after it
pub integer_size-beside_least : integer_size (least_integer +ℤ pos 1) ≡ 8
unfolding integer_size digit_count
integer_size-beside_least = refl

-- the part of 0 has 2 bytes
pub integer_size-zero : integer_size (pos 0) + 0 ≡ 2
unfolding integer_size digit_count
integer_size-zero = refl

-- keys with the same code are the same
pub same_from_code : (a b : KeyValue) → IsKey a → IsKey b → code a ≡ code b → a ≡ b
unfolding code
same_from_code a b p q e = by (order_of_integers a.integer b.integer)
  where
    by : (a.integer <ℤ b.integer) ⊎ ((a.integer ≡ b.integer) ⊎ (b.integer <ℤ a.integer)) → a ≡ b
    by (inl l) = absurd (not_below_itself (code b) (subst (λ z. IsBelow z (code b)) e (below_from_lower a b p q (inl l))))
    by (inr (inl s)) =
        let fractions = append_cancel_left (integer_code a.integer) a.fraction b.fraction (e ∙ ap (λ i. integer_code i ++ b.fraction) (sym s)) in
        λ i. record { integer = s i; fraction = fractions i }
    by (inr (inr g)) = absurd (not_below_itself (code a) (subst (λ z. IsBelow z (code a)) (sym e) (below_from_lower b a q p (inl g))))
