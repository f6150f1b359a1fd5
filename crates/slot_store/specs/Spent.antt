-- Where numbers end: generations, slots, and the lengths of logs.
use Rattle.std.specs.Prelude.{◌≡◌, ℕ, suc, ◌+◌, ◌*◌, ◌<◌, ◌≤◌, Bool, true, false, List, [], ◌∷◌, length, ◌==◌}
use Rattle.std.specs.List.{list_any}
use Rattle.page_bytes.specs.declared.ids.PageId.{PageId}
use Rattle.page_device.specs.declared.device.TheConstants.{LONGEST}
use Rattle.page_versions.specs.declared.version.Image.{Image as PageImage}
use Rattle.page_versions.specs.declared.version.Image.TheVariants as image
use Rattle.xq_ast.specs.declared.code.SpentKind.{SpentKind}
use Rattle.xq_ast.specs.declared.code.SpentKind.TheVariants.{Commit, Generation, Page, Slot, Log}
use Rattle.redo_log.specs.declared.change.LogName.{LogName}
use Rattle.slot_store.specs.declared.planning.TheConstants.{LAST_SLOT}
use Rattle.slot_store.specs.Slots.{AreLeast}
use Rattle.slot_store.specs.Head.{front_bytes}

-- the last generation
abbrev pub last_generation : ℕ
last_generation = 18446744073709551615

-- how many of these images are in no slot
abbrev pub one_resident : PageImage → ℕ → ℕ
one_resident (image.Resident page) n = suc n
one_resident (image.Slot slot) n = n
one_resident image.Absent n = n

abbrev pub count_residents : List (PageId × PageImage) → ℕ
count_residents [] = 0
count_residents (x ∷ xs) = one_resident x.1 (count_residents xs)

-- There are fewer free slots than images that are in none: the free ones up to the last are all among these.
pub record IsSlotSpent (used : ℕ → Bool) (images : List (PageId × PageImage)) : Type 0 where
  pub slots : List ℕ
  pub least : AreLeast used 0 slots
  pub few : length slots < count_residents images
  pub all : (s : ℕ) → s ≤ LAST_SLOT → used s ≡ false → list_any (λ t. t == s) slots ≡ true

-- the head of these documents and of so many pages, with its own gate and the first record's, is longer than a file can be
abbrev pub IsLogSpent : ℕ → ℕ → List LogName → ℕ → Type 0
IsLogSpent generation commit entries pages = LONGEST < length (front_bytes generation commit entries pages) + pages * 32 + 2

-- the last generation, slot or length of a log; a checkpoint spends nothing else
abbrev pub IsSpentAt : SpentKind → ℕ → Type 0
IsSpentAt Commit n = ⊥
IsSpentAt Generation n = n ≡ last_generation
IsSpentAt Page n = ⊥
IsSpentAt Slot n = n ≡ LAST_SLOT
IsSpentAt Log n = n ≡ LONGEST

-- only slots are spent here, and the last one is named
abbrev pub IsSlotEnd : SpentKind → ℕ → Type 0
IsSlotEnd Commit n = ⊥
IsSlotEnd Generation n = ⊥
IsSlotEnd Page n = ⊥
IsSlotEnd Slot n = n ≡ LAST_SLOT
IsSlotEnd Log n = ⊥

-- no slot from a place on is free, up to the last
abbrev pub NoneFree : (ℕ → Bool) → ℕ → Type 0
NoneFree used from = (t : ℕ) → from ≤ t → t ≤ LAST_SLOT → used t ≡ true
