-- A list cut in two at the first of a byte.
use Rattle.std.specs.Prelude.{◌≡◌, ◌≢◌, ℕ, ◌<◌, List, ◌∷◌, ◌++◌, length, slice_index}

-- no item is c
abbrev pub Lacks : ℕ → List ℕ → Type 0
Lacks c bytes = (i : ℕ) → i < length bytes → slice_index bytes i ≢ c

-- the list is what stands before its first c, that c, and what stands after it
pub record IsCut (c : ℕ) (bytes before behind : List ℕ) : Type 0 where
  pub whole : bytes ≡ before ++ c ∷ behind
  pub first : Lacks c before
