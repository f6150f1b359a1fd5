-- The order of byte lists: what decides it, and its laws.
use Rattle.std.proofs.Common.{◌≡◌, ℕ, ◌<◌, ◌≤◌, List, [], ◌∷◌, ◌++◌, length, refl, sym, ◌∙◌, ap, subst, arith, ◌⊎◌, inl, inr}
use Rattle.std.proofs.lemmas.Bool.Decides.{nat_tests}
use Rattle.std.proofs.lemmas.Cmp.{nat_cmp_total, nat_list_cmp_total, tied_itself, ranked}
use Rattle.std.proofs.lemmas.Slice.Eq.{bytes_eq-Decides}
use Rattle.std.proofs.lemmas.Map.Text.{is_eq-slice_cmp}
use Rattle.std.specs.Ordering.{nat_cmp, ordering_then, MatchOrdering, is_eq}
use Rattle.std.specs.Cmp.Lexicographic.{slice_cmp}
use Rattle.std.specs.declared.cmp.Ordering.{Ordering}
use Rattle.std.specs.declared.cmp.Ordering.TheVariants.{Less, Equal, Greater}
use Rattle.order_labels.specs.LabelOrder.{byte_order, IsBelow}

-- a byte compares as equal with itself
same_byte : (x : ℕ) → nat_cmp x x ≡ Equal
same_byte x = tied_itself nat_cmp_total x

-- a lower byte comes out as Less
lower_byte : (x y : ℕ) → x < y → nat_cmp x y ≡ Less
lower_byte x y h = grind (arith, nat_tests)

-- a lower first byte decides
pub below_by_byte : (x y : ℕ) (xs ys : List ℕ) → x < y → IsBelow (x ∷ xs) (y ∷ ys)
below_by_byte x y xs ys h = ap (λ o. ordering_then o (slice_cmp nat_cmp xs ys)) (lower_byte x y h)

-- equal first bytes leave it to the rest
pub byte_order-same : (x : ℕ) (xs ys : List ℕ) → byte_order (x ∷ xs) (x ∷ ys) ≡ byte_order xs ys
byte_order-same x xs ys = ap (λ o. ordering_then o (slice_cmp nat_cmp xs ys)) (same_byte x)

-- a common front leaves it to the rest
pub byte_order-front : (front xs ys : List ℕ) → byte_order (front ++ xs) (front ++ ys) ≡ byte_order xs ys
byte_order-front [] xs ys = refl
byte_order-front (x ∷ front) xs ys = byte_order-same x (front ++ xs) (front ++ ys) ∙ byte_order-front front xs ys

-- a proper prefix is below
pub below_longer : (front : List ℕ) (y : ℕ) (ys : List ℕ) → IsBelow front (front ++ y ∷ ys)
below_longer [] y ys = refl
below_longer (x ∷ front) y ys = byte_order-same x front (front ++ y ∷ ys) ∙ below_longer front y ys

-- at the first place where they differ the lower byte decides
pub below_at : (front : List ℕ) (x y : ℕ) (xs ys : List ℕ) → x < y → IsBelow (front ++ x ∷ xs) (front ++ y ∷ ys)
below_at front x y xs ys h = byte_order-front front (x ∷ xs) (y ∷ ys) ∙ below_by_byte x y xs ys h

-- what is below a list that is below a third is below the third
pub below_trans : (xs ys zs : List ℕ) → IsBelow xs ys → IsBelow ys zs → IsBelow xs zs
below_trans xs ys zs = nat_list_cmp_total.trans xs ys zs

-- nothing is below itself
pub not_below_itself : (xs : List ℕ) → IsBelow xs xs → ⊥
not_below_itself xs h = let e = tied_itself nat_list_cmp_total xs in cc

-- two that are below each other cannot be
pub not_below_both : (xs ys : List ℕ) → IsBelow xs ys → IsBelow ys xs → ⊥
not_below_both xs ys h g = not_below_itself xs (below_trans xs ys xs h g)

-- what the first bytes of two lists in order are
pub heads : (x y : ℕ) (xs ys : List ℕ) → IsBelow (x ∷ xs) (y ∷ ys) → (x < y) ⊎ ((x ≡ y) × IsBelow xs ys)
heads x y xs ys h = by (nat_cmp x y) (ranked x y _ refl) h
  where
    by : (o : Ordering) → MatchOrdering o (x < y) (x ≡ y) (y < x) → ordering_then o (slice_cmp nat_cmp xs ys) ≡ Less → (x < y) ⊎ ((x ≡ y) × IsBelow xs ys)
    by Less r e = inl r
    by Equal r e = inr (r, e)
    by Greater r e = absurd cc

-- A lower byte, or an equal one with a lower rest, makes a list lower.
pub below_by_heads : (x y : ℕ) (xs ys : List ℕ) → (x < y) ⊎ ((x ≡ y) × IsBelow xs ys) → IsBelow (x ∷ xs) (y ∷ ys)
below_by_heads x y xs ys (inl r) = below_by_byte x y xs ys r
below_by_heads x y xs ys (inr r) = subst (λ z. IsBelow (x ∷ xs) (z ∷ ys)) r.0 (byte_order-same x xs ys ∙ r.1)

-- the same heads, with the step from the rests to other rests
pub with_rests : (x y : ℕ) (P Q : Type 0) → (P → Q) → (x < y) ⊎ ((x ≡ y) × P) → (x < y) ⊎ ((x ≡ y) × Q)
with_rests x y P Q f (inl r) = inl r
with_rests x y P Q f (inr r) = inr (r.0, f r.1)

-- A list that is as long at least stays below with more at its end.
pub below_with_more : (low high more : List ℕ) → length high ≤ length low → IsBelow low high → IsBelow (low ++ more) high
below_with_more [] [] more l h = absurd cc
below_with_more [] (y ∷ high) more l h = absurd (omega arith)
below_with_more (x ∷ low) [] more l h = absurd cc
below_with_more (x ∷ low) (y ∷ high) more l h =
    below_by_heads x y (low ++ more) high
    (with_rests x y (IsBelow low high) (IsBelow (low ++ more) high) (below_with_more low high more (omega arith)) (heads x y low high h))

-- A list that is no longer than a front of one above it is below that front with other bytes at its end.
pub below_front : (low front : List ℕ) (x y : ℕ) (xs ys : List ℕ) → length low ≤ length front → IsBelow low (front ++ x ∷ xs) → IsBelow low (front ++ y ∷ ys)
below_front [] [] x y xs ys l h = refl
below_front (a ∷ low) [] x y xs ys l h = absurd (omega arith)
below_front [] (b ∷ front) x y xs ys l h = refl
below_front (a ∷ low) (b ∷ front) x y xs ys l h =
    below_by_heads a b low (front ++ y ∷ ys)
    (with_rests a b (IsBelow low (front ++ x ∷ xs)) (IsBelow low (front ++ y ∷ ys)) (below_front low front x y xs ys (omega arith))
    (heads a b low (front ++ x ∷ xs) h))

-- lists that compare as equal are the same
pub same_from_order : (xs ys : List ℕ) → byte_order xs ys ≡ Equal → xs ≡ ys
same_from_order xs ys e = (bytes_eq-Decides xs ys).0 (sym (is_eq-slice_cmp xs ys) ∙ ap is_eq e)
