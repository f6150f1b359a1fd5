-- The slots of the slot file: slot k is the 4,096 bytes from k * 4096 on.
use Rattle.std.specs.Prelude.{◌≡◌, ℕ, ◌+◌, ◌*◌, ◌<◌, ◌≤◌, Bool, true, false, ◌==◌, List, [], ◌∷◌, ◌++◌, length, take, drop}
use Rattle.std.specs.List.{list_any, AllByRecursion}
use Rattle.slot_store.specs.declared.planning.TheConstants.{LAST_SLOT}

-- the bytes of a slot
abbrev pub slot_in : List ℕ → ℕ → List ℕ
slot_in bytes slot = take 4096 (drop (slot * 4096) bytes)

-- the slot lies inside the file
abbrev pub IsInside : List ℕ → ℕ → Type 0
IsInside bytes slot = slot * 4096 + 4096 ≤ length bytes

-- The first of these is the least free slot from a place on, and each later one the least free slot behind the one before it.
abbrev pub AreLeast : (ℕ → Bool) → ℕ → List ℕ → Type 0
AreLeast used from [] = Unit {0}
AreLeast used from (s ∷ ss) = (from ≤ s) × (used s ≡ false) × ((t : ℕ) → from ≤ t → t < s → used t ≡ true) × AreLeast used (s + 1) ss

-- the place behind the last of these slots
abbrev pub behind_slots : ℕ → List ℕ → ℕ
behind_slots from [] = from
behind_slots from (s ∷ ss) = behind_slots (s + 1) ss

-- These slots were given one after another, each the least free one from a place on, up to another place: those after are those
-- before and then the given ones, each free slot between is given, and none is past the last.
pub record GivesSlots (used : ℕ → Bool) (from to : ℕ) (before after : List ℕ) : Type 0 where
  pub given : List ℕ
  pub is : after ≡ before ++ given
  pub least : (more : List ℕ) → AreLeast used to more → AreLeast used from (given ++ more)
  pub all : (s : ℕ) → from ≤ s → s < to → used s ≡ false → list_any (λ t. t == s) given ≡ true
  pub within : AllByRecursion (λ (s : ℕ). s ≤ LAST_SLOT) given
