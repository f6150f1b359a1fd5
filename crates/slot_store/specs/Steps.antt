-- What the steps of a checkpoint do to an image.
use Rattle.std.specs.Prelude.{◌≡◌, ℕ, ◌≤◌, ◌<◌, false, ◌==◌, List, ◌∷◌, ◌++◌, length, Option, Some, IfSome}
use Rattle.std.specs.List.{AllByRecursion, list_any}
use Rattle.page_device.specs.declared.device.Which.{Which}
use Rattle.page_device.specs.declared.device.Which.TheVariants.{Slots}
use Rattle.page_device.specs.Image.{Image, bytes_of, SameOthers}
use Rattle.page_device.specs.Device.{FileIs}
use Rattle.slot_store.specs.declared.planning.Placed.{Placed}
use Rattle.slot_store.specs.Slots.{slot_in, IsInside}
use Rattle.slot_store.specs.Planned.{written_slots}

-- an image that such a step leads to from one of these
pub record From (step : Image → Image → Type 0) (old : Image → Type 0) (i : Image) : Type 0 where
  pub was : Image
  pub is_old : old was
  pub does : step was i

-- each slot but these that lay inside the slot file has the bytes that it had, and the file is no shorter
pub record SlotsStand (written : List ℕ) (was i : Image) : Type 0 where
  pub longer : length was.slots ≤ length i.slots
  pub stand : (s : ℕ) → list_any (λ t. t == s) written ≡ false → IsInside was.slots s → slot_in i.slots s ≡ slot_in was.slots s

-- the same, and the logs are as they were
pub record SlotsWritten (written : List ℕ) (was i : Image) : Type 0 where
  pub others : SameOthers Slots was i
  pub slots : SlotsStand written was i

-- a placed page that is written stands in its slot
abbrev pub HasImage : List ℕ → Placed → Type 0
HasImage bytes p = IfSome p.page (λ page. (slot_in bytes p.slot ≡ page) × IsInside bytes p.slot)

-- each page that is written stands in its slot, and all else is as it was
pub record HasImages (placed : List Placed) (was i : Image) : Type 0 where
  pub step : SlotsWritten (written_slots placed) was i
  pub each : AllByRecursion (HasImage i.slots) placed

-- the file has a first byte
abbrev pub HasGate : Which → Image → Type 0
HasGate file i = 0 < length (bytes_of i file)

-- only the first byte of the file may differ, and it is not 1 unless it was
pub record GateMoved (file : Which) (was i : Image) : Type 0 where
  pub others : SameOthers file was i
  pub before : ℕ
  pub after : ℕ
  pub rest : List ℕ
  pub was_so : bytes_of was file ≡ before ∷ rest
  pub is : bytes_of i file ≡ after ∷ rest
  pub shut : after ≡ 1 → before ≡ 1

-- each image has the file as it is here, and its first byte is not 1
pub record IsClosed (file : Which) (c : Image) (images : Image → Type 0) : Type 0 where
  pub synced : FileIs file (bytes_of c file) images
  pub gate : ℕ
  pub rest : List ℕ
  pub is : bytes_of c file ≡ gate ∷ rest
  pub shut : gate ≡ 1 → ⊥

-- the first byte of the file stays, if there is one, and so do the other files
pub record BehindGate (file : Which) (was i : Image) : Type 0 where
  pub others : SameOthers file was i
  pub gate : (g : ℕ) (rest : List ℕ) → bytes_of was file ≡ g ∷ rest → (now : List ℕ) × (bytes_of i file ≡ g ∷ now)

-- behind the first byte, which stays, stand these bytes; the other files stay
pub record Stands (file : Which) (bytes : List ℕ) (was i : Image) : Type 0 where
  pub others : SameOthers file was i
  pub gate : ℕ
  pub before : List ℕ
  pub was_so : bytes_of was file ≡ gate ∷ before
  pub rest : List ℕ
  pub is : bytes_of i file ≡ gate ∷ (bytes ++ rest)

-- What is read now begins with these bytes in the file, and has the other files as they were.
pub record BeginsWith (file : Which) (bytes : List ℕ) (c : Image) (now : Option Image) : Type 0 where
  pub image : Image
  pub told : now ≡ Some image
  pub others : SameOthers file c image
  pub rest : List ℕ
  pub is : bytes_of image file ≡ bytes ++ rest
