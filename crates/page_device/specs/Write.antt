-- What a write does to one file: where it is done, and where it is done in part.
use Rattle.std.specs.Prelude.{◌≡◌, ℕ, zero, suc, ◌+◌, ◌-◌, ◌≤◌, max, min, List, [], ◌∷◌, ◌++◌, length, take, drop, replicate}

-- The file after the write: the range holds the bytes, a gap past the old end holds zeros, the rest stays. A write of no bytes changes nothing.
abbrev pub overlay : List ℕ → ℕ → List ℕ → List ℕ
overlay old at [] = old
overlay old at (b ∷ bs) = take at (old ++ replicate (at - length old) 0) ++ (b ∷ bs) ++ drop (at + length (b ∷ bs)) old

-- how long a file of this length is after a write of n bytes
abbrev pub grown : ℕ → ℕ → ℕ → ℕ
grown long at zero = long
grown long at (suc n) = max long (at + suc n)

-- Any bytes in the range of the write and past the old end, the same bytes elsewhere; no shorter than before, and no longer
-- than the whole write would leave it.
pub record Torn (at n : ℕ) (old new : List ℕ) : Type 0 where
  pub before : take (min at (length old)) new ≡ take (min at (length old)) old
  pub after : drop (at + n) new ≡ drop (at + n) old
  pub no_shorter : length old ≤ length new
  pub no_longer : length new ≤ grown (length old) at n

-- a write whose bytes, and those of the gap before it, are all 255
abbrev pub filled : List ℕ → ℕ → ℕ → List ℕ
filled old at zero = old
filled old at (suc n) = take at (old ++ replicate (at - length old) 255) ++ replicate (suc n) 255 ++ drop (at + suc n) old
