-- A key: an integer and a fraction, and which pairs of them are keys.
use Rattle.std.specs.Prelude.{◌≡◌, ◌≢◌, ℕ, ◌-◌, ◌^◌, ◌≤◌, ℤ, pos, negsuc, ◌≤ℤ◌, ◌<ℤ◌, List, [], ◌∷◌, ◌++◌, All}

-- a key as contracts see it
pub record KeyValue : Type 0 where
  pub integer : ℤ
  pub fraction : List ℕ

-- the key of an integer, with no fraction
abbrev pub whole : ℤ → KeyValue
whole i = record { integer = i; fraction = [] }

-- bytes from 2 to 255 that do not end with 2
pub record IsFraction (bytes : List ℕ) : Type 0 where
  pub bytes_in_range : All (λ b. (2 ≤ b) × (b ≤ 255)) bytes
  pub last_is_not_2 : (front : List ℕ) → bytes ≢ front ++ 2 ∷ []

-- -254^7
abbrev pub least_integer : ℤ
least_integer = negsuc (254 ^ 7 - 1)

-- the integer is from -254^7 to 254^7 - 1, and the least integer has a fraction that is not empty,
-- so that below each key there is another
pub record IsKey (k : KeyValue) : Type 0 where
  pub from_least : least_integer ≤ℤ k.integer
  pub below_bound : k.integer <ℤ pos (254 ^ 7)
  pub fraction : IsFraction k.fraction
  pub room_below : k.integer ≡ least_integer → k.fraction ≢ []
