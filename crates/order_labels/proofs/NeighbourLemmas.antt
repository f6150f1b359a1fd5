-- The keys that are made beside others: that they are keys, where they lie and how long their codes are.
use Rattle.std.proofs.Common.{◌≡◌, ◌≢◌, ℕ, ◌+◌, ◌≤◌, ℤ, pos, max, List, [], ◌∷◌, ◌++◌, length, refl, ◌∙◌, ap, subst, arith, inl, inr}
use Rattle.std.specs.Prelude.{◌+ℤ◌, ◌-ℤ◌, ◌<ℤ◌, ◌≤ℤ◌}
use Rattle.std.proofs.lemmas.Int.{ints}
use Rattle.std.proofs.lemmas.Cmp.{nat_list_cmp_total}
use Rattle.std.specs.Ordering.{ordering_reverse}
use Rattle.std.specs.declared.cmp.Ordering.TheVariants.{Greater}
use Rattle.order_labels.specs.KeyValue.{KeyValue, IsKey, least_integer, whole}
use Rattle.order_labels.specs.LabelOrder.{byte_order, integer_code, code, IsBelow, IsKeyBelow, IsLower}
use Rattle.order_labels.proofs.ByteOrder.{byte_order-front}
use Rattle.order_labels.proofs.CodeOrder.{below_from_lower, lower_from_below, length-code, integer_size, integer_size-next, integer_size-previous, integer_size-least, integer_size-beside_least, integer_size-zero}

-- of two keys of one integer that with the lower fraction is below
pub below_by_fraction : (a b : KeyValue) → a.integer ≡ b.integer → IsBelow a.fraction b.fraction → IsKeyBelow a b
unfolding code
below_by_fraction a b e l =
    subst (λ i. IsBelow (integer_code a.integer ++ a.fraction) (integer_code i ++ b.fraction)) e
    (byte_order-front (integer_code a.integer) a.fraction b.fraction ∙ l)

-- a key is below those of higher integers
pub below_by_integer : (a b : KeyValue) → IsKey a → IsKey b → a.integer <ℤ b.integer → IsKeyBelow a b
below_by_integer a b p q l = below_from_lower a b p q (inl l)

-- what may be between two keys of one integer
pub fractions_in_order : (a b : KeyValue) → IsKey a → IsKey b → a.integer ≡ b.integer → IsKeyBelow a b → IsBelow a.fraction b.fraction
fractions_in_order a b p q e l = by (lower_from_below a b p q l)
  where
    by : IsLower a b → IsBelow a.fraction b.fraction
    by (inl less) = absurd (omega (arith, ints))
    by (inr same) = same.1

-- two keys in order have their integers in order, or equal
pub integers_in_order : (a b : KeyValue) → IsKey a → IsKey b → IsKeyBelow a b → a.integer ≤ℤ b.integer
integers_in_order a b p q l = by (lower_from_below a b p q l)
  where
    by : IsLower a b → a.integer ≤ℤ b.integer
    by (inl less) = omega (arith, ints)
    by (inr same) = omega (arith, ints, same.0)

-- a code of the same integer is as much longer as its fraction
pub shorter_by_fraction : (k a : KeyValue) (n : ℕ) → k.integer ≡ a.integer → length k.fraction ≤ length a.fraction + n → length (code k) ≤ length (code a) + n
shorter_by_fraction k a n e l = omega (arith, length-code k, length-code a, ap integer_size e)

-- the same beside two codes of one integer, as much longer as the longer fraction
pub short_beside : (k low high : KeyValue) → k.integer ≡ low.integer → k.integer ≡ high.integer
    → length k.fraction ≤ max (length low.fraction) (length high.fraction) + 1 → length (code k) ≤ max (length (code low)) (length (code high)) + 1
short_beside k low high e f l =
    omega (arith, length-code k, length-code low, length-code high, ap integer_size e, ap integer_size f)

-- a code with the next integer and no fraction is one byte longer at most
pub short_next : (k low : KeyValue) (i : ℤ) → IsKey low → k ≡ whole i → i ≡ low.integer +ℤ pos 1 → length (code k) ≤ length (code low) + 1
short_next k low i p e n =
    omega (
      arith,
      length-code k,
      length-code low,
      integer_size-next low.integer p.from_least p.below_bound,
      ap (λ k. integer_size k.integer) e,
      ap
          (λ k. length k.fraction) e,
      ap integer_size n,
    )

-- a code with the integer before and no fraction is one byte longer at most
pub short_previous : (k high : KeyValue) (i : ℤ) → IsKey high → least_integer <ℤ high.integer → k ≡ whole i → i ≡ high.integer -ℤ pos 1
    → length (code k) ≤ length (code high) + 1
short_previous k high i p lo e n =
    omega (
      arith,
      length-code k,
      length-code high,
      integer_size-previous high.integer lo p.below_bound,
      ap (λ k. integer_size k.integer) e,
      ap
          (λ k. length k.fraction) e,
      ap integer_size n,
    )

-- a code of the least integer and a fraction of one byte has 9 bytes
pub length-code-least : (k : KeyValue) → k.integer ≡ least_integer → length k.fraction ≤ 1 → length (code k) ≤ 9
length-code-least k e l = omega (arith, length-code k, ap integer_size e, integer_size-least)

-- the integer after the least one has as many digits as that
pub code_beside_least : (k : KeyValue) → k.integer ≡ least_integer +ℤ pos 1 → 8 ≤ length (code k)
code_beside_least k e = omega (arith, length-code k, ap integer_size e, integer_size-beside_least)

-- no bytes are below any
pub empty_below : (f : List ℕ) → f ≢ [] → IsBelow [] f
empty_below [] h = absurd (h refl)
empty_below (x ∷ f) h = refl

-- the code of 0 has 2 bytes
pub length-code-zero : length (code (whole (pos 0))) ≡ 2
length-code-zero = length-code (whole (pos 0)) ∙ integer_size-zero

-- the other way round, a key is above those of lower integers
pub above_by_integer : (a b : KeyValue) → IsKey a → IsKey b → b.integer <ℤ a.integer → byte_order (code a) (code b) ≡ Greater
above_by_integer a b p q l = nat_list_cmp_total.antisymm (code a) (code b) ∙ ap ordering_reverse (below_by_integer b a q p l)

-- codes of one integer are in the order of the fractions
pub byte_order-code : (a b : KeyValue) → a.integer ≡ b.integer → byte_order (code a) (code b) ≡ byte_order a.fraction b.fraction
unfolding code
byte_order-code a b e =
    subst (λ i. byte_order (integer_code a.integer ++ a.fraction) (integer_code i ++ b.fraction) ≡ byte_order a.fraction b.fraction) e
    (byte_order-front (integer_code a.integer) a.fraction b.fraction)
