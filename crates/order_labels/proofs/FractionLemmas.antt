-- Which bytes are a fraction, and what a change of its end makes of it.
use Rattle.std.proofs.Common.{◌≡◌, ◌≢◌, ℕ, ◌+◌, ◌-◌, ◌<◌, ◌≤◌, List, [], ◌∷◌, ◌++◌, length, get_or, take, drop, refl, sym, ◌∙◌, ap, subst, arith, length-append, append_assoc, ◌⊎◌, inl, inr}
use Rattle.std.specs.Prelude.{All}
use Rattle.std.proofs.lemmas.Bool.{cases_order}
use Rattle.std.proofs.lemmas.List.{same_from_push, take-append-drop, drop_more, take_more, take_all, length-take-le}
use Rattle.std.proofs.lemmas.List.Elements.{All-push, All-get_or, All-take}
use Rattle.order_labels.specs.KeyValue.{IsFraction}
use Rattle.order_labels.specs.LabelOrder.{IsBelow}
use Rattle.order_labels.proofs.ByteOrder.{below_at, below_front}

-- a byte that a fraction may have
abbrev pub InRange : ℕ → Type 0
InRange b = (2 ≤ b) × (b ≤ 255)

-- bytes in range with one above 2 at their end are a fraction
pub fraction_ends : (front : List ℕ) (x : ℕ) → All InRange front → 3 ≤ x → x ≤ 255 → IsFraction (front ++ x ∷ [])
fraction_ends front x all lo hi = record {
  bytes_in_range = All-push InRange front x all (omega arith, hi);
  last_is_not_2 = λ other e. omega (arith, (same_from_push front other x 2 e).1);
}

-- no bytes are a fraction
pub fraction_empty : IsFraction []
fraction_empty = record {
  bytes_in_range = λ k d h. absurd (omega arith);
  last_is_not_2 = λ front e. omega (arith, ap length e, length-append front (2 ∷ []));
}

-- a list is what comes before a place, the element there and what comes after
split_at : (xs : List ℕ) (n : ℕ) → n < length xs → xs ≡ take n xs ++ get_or xs n 0 ∷ drop (n + 1) xs
split_at xs n h = sym (take-append-drop n xs) ∙ ap (λ ys. take n xs ++ ys) (drop_more xs n 0 h)

-- a list that is not empty is what comes before its last element and that element
pub split_last : (xs : List ℕ) (n : ℕ) → length xs ≡ n + 1 → xs ≡ take n xs ++ get_or xs n 0 ∷ []
split_last xs n e = sym (take_all (n + 1) xs (omega arith)) ∙ take_more xs n 0 (omega arith)

-- a fraction's last byte is above 2
pub last_above_2 : (xs : List ℕ) (n : ℕ) → IsFraction xs → length xs ≡ n + 1 → 3 ≤ get_or xs n 0
last_above_2 xs n f e = by (cases_order (get_or xs n 0) 2) (All-get_or InRange xs n 0 (omega arith) f.bytes_in_range)
  where
    by : (get_or xs n 0 ≡ 2) ⊎ ((get_or xs n 0 < 2) ⊎ (2 < get_or xs n 0)) → InRange (get_or xs n 0) → 3 ≤ get_or xs n 0
    by (inl two) r = absurd (f.last_is_not_2 (take n xs) (split_last xs n e ∙ ap (λ b. take n xs ++ b ∷ []) two))
    by (inr (inl less)) r = absurd (omega (arith, r.0))
    by (inr (inr more)) r = omega arith

-- a lower byte in place of the last one makes it lower
pub below_by_last : (high : List ℕ) (n x : ℕ) (xs : List ℕ) → length high ≡ n + 1 → x < get_or high n 0 → IsBelow (take n high ++ x ∷ xs) high
below_by_last high n x xs e l =
    subst (λ h. IsBelow (take n high ++ x ∷ xs) h) (sym (split_last high n e)) (below_at (take n high) x (get_or high n 0) xs [] l)

-- what is below and shorter stays below, whatever comes in place of the last byte
pub below_near : (high : List ℕ) (n x : ℕ) (xs low : List ℕ) → length high ≡ n + 1 → length low < length high → IsBelow low high
    → IsBelow low (take n high ++ x ∷ xs)
below_near high n x xs low e s l =
    below_front low (take n high) (get_or high n 0) x [] xs (omega (arith, length-take-le n high (omega arith)))
    (subst (λ h. IsBelow low h) (split_last high n e) l)

-- a higher byte at a place makes it higher
pub above_by_byte : (low : List ℕ) (n x : ℕ) (xs : List ℕ) → n < length low → get_or low n 0 < x → IsBelow low (take n low ++ x ∷ xs)
above_by_byte low n x xs h l =
    subst (λ z. IsBelow z (take n low ++ x ∷ xs)) (sym (split_at low n h)) (below_at (take n low) (get_or low n 0) x (drop (n + 1) low) xs l)

-- a list that is not empty has a last place
pub length_of_some : (xs : List ℕ) → xs ≢ [] → length xs ≡ length xs - 1 + 1
length_of_some [] h = absurd (h refl)
length_of_some (x ∷ xs) h = omega arith

-- some first bytes of a fraction and then 2 and 255 are a fraction
pub fraction_below : (xs : List ℕ) (n : ℕ) → IsFraction xs → IsFraction (take n xs ++ 2 ∷ 255 ∷ [])
fraction_below xs n f =
    let front = All-push InRange (take n xs) 2 (All-take InRange n xs f.bytes_in_range) (omega arith, omega arith) in
    subst IsFraction (append_assoc (take n xs) (2 ∷ []) (255 ∷ [])) (fraction_ends (take n xs ++ 2 ∷ []) 255 front (omega arith) (omega arith))
