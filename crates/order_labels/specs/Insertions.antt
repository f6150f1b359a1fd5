-- Sequences of insertions into a list of keys, and what they leave of the keys that were there.
use Rattle.std.specs.Prelude.{ℕ, zero, suc, pos, List, [], ◌∷◌, ◌++◌, Option, Some, None}
use Rattle.order_labels.specs.KeyValue.{KeyValue, whole}
use Rattle.order_labels.specs.LabelOrder.{IsKeyBelow}
use Rattle.order_labels.specs.Neighbours.{LiesBetween}

-- the first of the keys, if there is one
abbrev pub first_key : List KeyValue → Option KeyValue
first_key [] = None
first_key (k ∷ ks) = Some k

-- the last of the keys, if there is one
abbrev pub last_key : List KeyValue → Option KeyValue
last_key [] = None
last_key (k ∷ []) = Some k
last_key (k ∷ next ∷ ks) = last_key (next ∷ ks)

-- each key is below the next one
abbrev pub IsRising : List KeyValue → Type 0
IsRising [] = Unit {0}
IsRising (k ∷ []) = Unit {0}
IsRising (k ∷ next ∷ ks) = IsKeyBelow k next × IsRising (next ∷ ks)

-- the second list comes from the first by insertions, at any places, of keys between their neighbours there
pub data Insertions : List KeyValue → List KeyValue → Type 0 where
  none : (ks : List KeyValue) → Insertions ks ks
  one_more : (before front back : List KeyValue) (k : KeyValue) → Insertions before (front ++ back) → LiesBetween (last_key front) (first_key back) k
      → Insertions before (front ++ k ∷ back)

-- the second list has all elements of the first in their order, and may have others between them
pub data AreKept : List (List ℕ) → List (List ℕ) → Type 0 where
  all : AreKept [] []
  kept : (x : List ℕ) {xs ys : List (List ℕ)} → AreKept xs ys → AreKept (x ∷ xs) (x ∷ ys)
  added : (y : List ℕ) {xs ys : List (List ℕ)} → AreKept xs ys → AreKept xs (y ∷ ys)

-- the keys of the integers 0 to n - 1
abbrev pub first_keys : ℕ → List KeyValue
first_keys zero = []
first_keys (suc n) = first_keys n ++ whole (pos n) ∷ []
