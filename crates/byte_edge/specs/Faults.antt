-- A count of faults, and what an answer says of it.
use Rattle.std.specs.Prelude.{◌≡◌, ◌<◌, ◌≤◌, ◌⊎◌, ◌+◌, ℕ, min, Result, IsErr, IsOk}

-- the last value of a count: 64 bits hold no more
abbrev pub last_count : ℕ
last_count = 18446744073709551615

-- the count has risen, or it stood and stands at the end of 64 bits
abbrev pub Rose : ℕ → ℕ → Type 0
Rose before now = (before < now) ⊎ ((before ≡ last_count) × (now ≡ last_count))

-- it rose, and did not fall
pub record Rises (before now : ℕ) : Type 0 where
  pub later : before ≤ now
  pub rose : Rose before now

-- the count doesn't fall, a call fails only where it rose, and a call that answers leaves it as it was
pub record HasCause {T E : Type 0} (before now : ℕ) (result : Result T E) : Type 0 where
  pub later : before ≤ now
  pub failed : IsErr result → Rose before now
  pub kept : IsOk result → now ≡ before

-- one more, or the end of 64 bits
abbrev pub up : ℕ → ℕ
up n = min (n + 1) last_count
