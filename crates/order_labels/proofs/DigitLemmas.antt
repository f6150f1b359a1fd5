-- The digits of a number to the base 254, and how many there are.
use Rattle.std.proofs.Common.{◌≡◌, ℕ, zero, suc, ◌+◌, ◌-◌, ◌*◌, ◌/◌, ◌%◌, ◌^◌, ◌<◌, ◌≤◌, ltb, List, [], ◌∷◌, ◌++◌, length, map, refl, sym, ◌∙◌, ap, subst, arith, ◌⊎◌, inl, inr, add-one, add-zero, lit≤, sub-one, append_assoc}
use Rattle.std.proofs.lemmas.Bool.{cases_order, ltb-true, ltb-false, cond_both, cond-true, cond-false, le-ltb, lt-ltb}
use Rattle.std.proofs.lemmas.Nat.{div-add-mod', mod_below, div_below}
use Rattle.std.proofs.Math.Nat.{pow-suc, one-le-pow, pow-le-pow_right, mul-le-mul_right}
use Rattle.order_labels.specs.LabelOrder.{digits, digit_count, digit_count_from, IsBelow}
use Rattle.order_labels.proofs.ByteOrder.{below_by_heads}

-- the n digits are n
pub length-digits : (f : ℕ → ℕ) (n i : ℕ) → length (map f (digits n i)) ≡ n
length-digits f zero i = refl
length-digits f (suc n) i = ap suc (length-digits f n (i % 254 ^ n))

-- 254 to any power is above 0
pub power_pos : (n : ℕ) → 0 < 254 ^ n
power_pos n = one-le-pow n 254 (lit≤ tt)

-- one more digit holds 254 times as much
pub power-one_more : (n : ℕ) → 254 ^ (n + 1) ≡ 254 ^ n * 254
power-one_more n = subst (λ m. 254 ^ m ≡ 254 ^ n * 254) (sym (add-one n)) (pow-suc 254 n)

-- of two numbers in order the quotients are in order, or equal with the remainders in order
quotients_rise : (q i j : ℕ) → 0 < q → i < j → (i / q < j / q) ⊎ ((i / q ≡ j / q) × (i % q < j % q))
quotients_rise q i j pos lower =
    let at_i : i / q * q + i % q ≡ i = div-add-mod' i q in
    let at_j : j / q * q + j % q ≡ j = div-add-mod' j q in
    let small : j % q < q = mod_below j q pos in
    by (cases_order (i / q) (j / q)) at_i at_j small
  where
    by : (i / q ≡ j / q) ⊎ ((i / q < j / q) ⊎ (j / q < i / q)) → i / q * q + i % q ≡ i → j / q * q + j % q ≡ j → j % q < q
        → (i / q < j / q) ⊎ ((i / q ≡ j / q) × (i % q < j % q))
    by (inl e) a b s = let same : i / q * q ≡ j / q * q = ap (λ z. z * q) e in inr (e, omega arith)
    by (inr (inl l)) a b s = inl l
    by (inr (inr g)) a b s = absurd (omega (arith, mul-le-mul_right {m = j / q + 1} {n = i / q} q (omega arith)))

-- the highest of n + 1 digits is below 254
pub first_digit : (n i : ℕ) → i < 254 ^ suc n → i / 254 ^ n < 254
first_digit n i h = div_below i (254 ^ n) 254 (power_pos n) (omega (arith, pow-suc 254 n))

-- powers of 254 up to the 7th fit 64 bits
pub power_fits : (n : ℕ) → n ≤ 7 → 254 ^ n < 2 ^ 64
power_fits n h = omega (arith, pow-le-pow_right {n = 254} (lit≤ tt) h)

-- the same as `first_digit`, where there is at least one digit
pub digit_below : (n i : ℕ) → 0 < n → i < 254 ^ n → i / 254 ^ (n - 1) < 254
digit_below zero i p h = absurd (omega arith)
digit_below (suc n) i p h = rw sub-one (first_digit n i h)

-- the digits are the highest one and those of the remainder
pub digits-first : (n i : ℕ) → 0 < n → digits n i ≡ (i / 254 ^ (n - 1)) ∷ digits (n - 1) (i % 254 ^ (n - 1))
digits-first zero i p = absurd (omega arith)
digits-first (suc n) i p = rw sub-one refl

-- the highest digit and then those of the remainder are all digits, after what is there
pub digits_pushed : (f : ℕ → ℕ) (out : List ℕ) (n i : ℕ) → 0 < n
    → out ++ f (i / 254 ^ (n - 1)) ∷ [] ++ map f (digits (n - 1) (i % 254 ^ (n - 1))) ≡ out ++ map f (digits n i)
digits_pushed f out n i p =
    append_assoc out (f (i / 254 ^ (n - 1)) ∷ []) (map f (digits (n - 1) (i % 254 ^ (n - 1)))) ∙ ap (λ ds. out ++ map f ds) (sym (digits-first n i p))

-- the digits of the remainder are enough for it
pub remainder_below : (n i : ℕ) → i % 254 ^ n < 254 ^ n
remainder_below n i = mod_below i (254 ^ n) (power_pos n)

-- A lower number of n digits has the lower digits, where a higher digit is written as a higher byte.
pub digits_rise : (f : ℕ → ℕ) → ((d e : ℕ) → d < e → e < 254 → f d < f e) → (n i j : ℕ) (xs ys : List ℕ) → i < j → j < 254 ^ n
    → IsBelow (map f (digits n i) ++ xs) (map f (digits n j) ++ ys)
digits_rise f up zero i j xs ys h g = absurd (omega arith)
digits_rise f up (suc n) i j xs ys h g =
    below_by_heads (f (i / 254 ^ n)) (f (j / 254 ^ n)) (map f (digits n (i % 254 ^ n)) ++ xs) (map f (digits n (j % 254 ^ n)) ++ ys)
    (by (quotients_rise (254 ^ n) i j (power_pos n) h) (λ r. digits_rise f up n (i % 254 ^ n) (j % 254 ^ n) xs ys r (mod_below j (254 ^ n) (power_pos n))))
  where
    by : {P : Type 0} → (i / 254 ^ n < j / 254 ^ n) ⊎ ((i / 254 ^ n ≡ j / 254 ^ n) × (i % 254 ^ n < j % 254 ^ n)) → (i % 254 ^ n < j % 254 ^ n → P)
        → (f (i / 254 ^ n) < f (j / 254 ^ n)) ⊎ ((f (i / 254 ^ n) ≡ f (j / 254 ^ n)) × P)
    by (inl l) ih = inl (up (i / 254 ^ n) (j / 254 ^ n) l (first_digit n j g))
    by (inr r) ih = inr (ap f r.0, ih r.1)

-- A lower number of n digits has the higher digits, where a higher digit is written as a lower byte.
pub digits_fall : (f : ℕ → ℕ) → ((d e : ℕ) → d < e → e < 254 → f e < f d) → (n i j : ℕ) (xs ys : List ℕ) → i < j → j < 254 ^ n
    → IsBelow (map f (digits n j) ++ ys) (map f (digits n i) ++ xs)
digits_fall f down zero i j xs ys h g = absurd (omega arith)
digits_fall f down (suc n) i j xs ys h g =
    below_by_heads (f (j / 254 ^ n)) (f (i / 254 ^ n)) (map f (digits n (j % 254 ^ n)) ++ ys) (map f (digits n (i % 254 ^ n)) ++ xs)
    (by (quotients_rise (254 ^ n) i j (power_pos n) h) (λ r. digits_fall f down n (i % 254 ^ n) (j % 254 ^ n) xs ys r (mod_below j (254 ^ n) (power_pos n))))
  where
    by : {P : Type 0} → (i / 254 ^ n < j / 254 ^ n) ⊎ ((i / 254 ^ n ≡ j / 254 ^ n) × (i % 254 ^ n < j % 254 ^ n)) → (i % 254 ^ n < j % 254 ^ n → P)
        → (f (j / 254 ^ n) < f (i / 254 ^ n)) ⊎ ((f (j / 254 ^ n) ≡ f (i / 254 ^ n)) × P)
    by (inl l) ih = inl (down (i / 254 ^ n) (j / 254 ^ n) l (first_digit n j g))
    by (inr r) ih = inr (sym (ap f r.0), ih r.1)

-- a number that has more than n digits, as it is not below 254^n, has at least n + 1
more_digits : (n i : ℕ) → ((m : ℕ) → 1 ≤ m → i < 254 ^ m → n ≤ m) → 254 ^ n ≤ i → (m : ℕ) → 1 ≤ m → i < 254 ^ m → n + 1 ≤ m
more_digits n i least over m p q = by (cases_order m n) (least m p q)
  where
    by : (m ≡ n) ⊎ ((m < n) ⊎ (n < m)) → n ≤ m → n + 1 ≤ m
    by (inl e) l = absurd (omega (arith, ap (λ z. 254 ^ z) e))
    by (inr (inl less)) l = absurd (omega arith)
    by (inr (inr more)) l = omega arith

-- no lower count will do
count_from_least : (steps n i : ℕ) → ((m : ℕ) → 1 ≤ m → i < 254 ^ m → n ≤ m) → (m : ℕ) → 1 ≤ m → i < 254 ^ m → digit_count_from steps n i ≤ m
count_from_least zero n i least m p q = least m p q
count_from_least (suc steps) n i least m p q =
    cond_both (ltb i (254 ^ n)) n (digit_count_from steps (n + 1) i) (λ r. r ≤ m)
    (λ t. least m p q)
    (λ t. count_from_least steps (n + 1) i (more_digits n i least (ltb-false i (254 ^ n) t)) m p q)

-- the count is at least where it began
count_from_start : (steps n i : ℕ) → n ≤ digit_count_from steps n i
count_from_start zero n i = omega arith
count_from_start (suc steps) n i =
    cond_both (ltb i (254 ^ n)) n (digit_count_from steps (n + 1) i) (λ r. n ≤ r)
    (λ t. omega arith)
    (λ t. omega (arith, count_from_start steps (n + 1) i))

-- the digits are enough
count_from_holds : (steps n i : ℕ) → i < 254 ^ (n + steps) → i < 254 ^ digit_count_from steps n i
count_from_holds zero n i h = rw add-zero at h
count_from_holds (suc steps) n i h =
    cond_both (ltb i (254 ^ n)) n (digit_count_from steps (n + 1) i) (λ r. i < 254 ^ r)
    (λ t. ltb-true i (254 ^ n) t)
    (λ t. count_from_holds steps (n + 1) i (subst (λ m. i < 254 ^ m) (omega arith) h))

-- one step of the count, where the number has more digits
pub count_step : (n i : ℕ) → n < 7 → 254 ^ n ≤ i → digit_count_from (7 - (n + 1)) (n + 1) i ≡ digit_count_from (7 - n) n i
count_step n i h over =
    let more : 7 - n ≡ suc (7 - (n + 1)) = omega arith in
    sym (ap (λ s. digit_count_from s n i) more ∙ cond-false (ltb i (254 ^ n)) n (digit_count_from (7 - (n + 1)) (n + 1) i) (le-ltb i (254 ^ n) over))

-- the last step of the count, where the digits are enough
pub count_stop : (n i : ℕ) → n < 7 → i < 254 ^ n → n ≡ digit_count_from (7 - n) n i
count_stop n i h enough =
    let more : 7 - n ≡ suc (7 - (n + 1)) = omega arith in
    sym (ap (λ s. digit_count_from s n i) more ∙ cond-true (ltb i (254 ^ n)) n (digit_count_from (7 - (n + 1)) (n + 1) i) (lt-ltb i (254 ^ n) enough))

-- a number has at least one digit
pub digit_count-pos : (i : ℕ) → 1 ≤ digit_count i
unfolding digit_count
digit_count-pos i = count_from_start 6 1 i

-- its digits are enough for it
pub digit_count-holds : (i : ℕ) → i < 254 ^ 7 → i < 254 ^ digit_count i
unfolding digit_count
digit_count-holds i h = count_from_holds 6 1 i h

-- fewer are not enough
pub digit_count-least : (i m : ℕ) → 1 ≤ m → i < 254 ^ m → digit_count i ≤ m
unfolding digit_count
digit_count-least i m p q = count_from_least 6 1 i (λ n a b. a) m p q

-- a number below 254^7 has at most 7 digits
pub digit_count-max : (i : ℕ) → i < 254 ^ 7 → digit_count i ≤ 7
digit_count-max i h = digit_count-least i 7 (omega arith) h

-- a lower number has no more digits
pub digit_count-mono : (i j : ℕ) → i ≤ j → j < 254 ^ 7 → digit_count i ≤ digit_count j
digit_count-mono i j l h =
    digit_count-least i (digit_count j) (digit_count-pos j) (omega (arith, digit_count-holds j h))

-- the next number has at most one digit more
pub digit_count-next : (i : ℕ) → i < 254 ^ 7 → digit_count (i + 1) ≤ digit_count i + 1
digit_count-next i h =
    digit_count-least (i + 1) (digit_count i + 1) (omega arith)
    (omega (arith, digit_count-holds i h, power-one_more (digit_count i), power_pos (digit_count i)))

-- a higher power is no lower
pub power_rises : (m n : ℕ) → m ≤ n → 254 ^ m ≤ 254 ^ n
power_rises m n h = pow-le-pow_right {n = 254} (lit≤ tt) h
