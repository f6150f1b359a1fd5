-- What insertions leave of the keys that were there.
use Rattle.std.proofs.Common.{◌≡◌, ℕ, zero, suc, ◌+◌, ◌^◌, ◌<◌, ◌≤◌, pos, Some, List, [], ◌∷◌, ◌++◌, map, refl, sym, ap, subst, arith, add-one}
use Rattle.std.proofs.lemmas.List.{append-nil, map-append}
use Rattle.std.proofs.lemmas.Int.{ints}
use Rattle.std.specs.Prelude.{IfSome}
use Rattle.order_labels.proofs.CodeOrder.{integers_rise}
use Rattle.order_labels.specs.KeyValue.{KeyValue, whole}
use Rattle.order_labels.specs.LabelOrder.{code, IsKeyBelow}
use Rattle.order_labels.specs.Neighbours.{LiesBetween}
use Rattle.order_labels.specs.Insertions.{first_key, last_key, IsRising, Insertions, none, one_more, AreKept, all, kept, added, first_keys}

-- a key in front of rising keys that it is below
rising_front : (k : KeyValue) (back : List KeyValue) → IsRising back → LiesBetween (last_key []) (first_key back) k → IsRising (k ∷ back)
rising_front k [] r l = tt
rising_front k (b ∷ back) r l = (l.below, r)

-- a key between its neighbours leaves the keys rising
pub rising_insert : (front back : List KeyValue) (k : KeyValue) → IsRising (front ++ back) → LiesBetween (last_key front) (first_key back) k
    → IsRising (front ++ k ∷ back)
rising_insert [] back k r l = rising_front k back r (record { above = tt; below = l.below })
rising_insert (a ∷ []) [] k r l = (l.above, tt)
rising_insert (a ∷ []) (b ∷ back) k r l = (l.above, (l.below, r.1))
rising_insert (a ∷ next ∷ front) back k r l = (r.0, rising_insert (next ∷ front) back k r.1 l)

-- all elements are kept where nothing happens
pub kept_all : (xs : List (List ℕ)) → AreKept xs xs
kept_all [] = all
kept_all (x ∷ xs) = kept x (kept_all xs)

-- what is kept in a list is kept in it with one more element
kept_insert : (xs front back : List (List ℕ)) (y : List ℕ) → AreKept xs (front ++ back) → AreKept xs (front ++ y ∷ back)
kept_insert xs [] back y r = added y r
kept_insert (x ∷ xs) (f ∷ front) back y (kept _ r) = kept x (kept_insert xs front back y r)
kept_insert xs (f ∷ front) back y (added _ r) = added f (kept_insert xs front back y r)

-- what any insertions leave
pub insertions_keep : (before after : List KeyValue) → IsRising before → Insertions before after → IsRising after × AreKept (map code before) (map code after)
insertions_keep before _ r (none _) = (r, kept_all (map code before))
insertions_keep before _ r (one_more _ front back k w l) =
    let rest = insertions_keep before (front ++ back) r w in (
      rising_insert front back k rest.0 l,
      rw map-append (kept_insert (map code before) (map code front) (map code back) (code k) (rw map-append at rest.1)),
    )

-- the next of the first keys
pub first_keys-next : (n : ℕ) → first_keys (n + 1) ≡ first_keys n ++ whole (pos n) ∷ []
first_keys-next n = ap first_keys (add-one n)

-- the last of the keys of 0 to n
last_first_key : (ks : List KeyValue) (k : KeyValue) → last_key (ks ++ k ∷ []) ≡ Some k
last_first_key [] k = refl
last_first_key (a ∷ []) k = refl
last_first_key (a ∷ b ∷ ks) k = last_first_key (b ∷ ks) k

-- the key of n is above the last of the keys of 0 to n - 1
above_first_keys : (n : ℕ) → n < 254 ^ 7 → IfSome (last_key (first_keys n)) (λ k. IsKeyBelow k (whole (pos n)))
unfolding code
above_first_keys zero h = tt
above_first_keys (suc n) h =
    subst (λ o. IfSome o (λ k. IsKeyBelow k (whole (pos (suc n))))) (sym (last_first_key (first_keys n) (whole (pos n))))
    (integers_rise (pos n) (pos (suc n)) (omega (arith, ints)) (omega (arith, ints)) (omega (arith, ints)) [] [])

-- the keys of 0 to n - 1 rise
pub first_keys_rise : (n : ℕ) → n ≤ 254 ^ 7 → IsRising (first_keys n)
first_keys_rise zero h = tt
first_keys_rise (suc n) h =
    rising_insert (first_keys n) [] (whole (pos n)) (rw append-nil (first_keys_rise n (omega arith)))
    (record { above = above_first_keys n (omega arith); below = tt })
