-- What the calls of a device do to what is read, and to what a crash may leave.
use Rattle.std.specs.Prelude.{◌≡◌, ◌⊎◌, ℕ, ◌≤◌, ◌<◌, ◌-◌, min, Option, IfSome, List, length, take, drop, Result, IsErr}
use Rattle.page_device.specs.declared.device.Failed.{Failed}
use Rattle.page_device.specs.declared.device.Which.{Which}
use Rattle.page_device.specs.Image.{Image, bytes_of, SameOthers}
use Rattle.page_device.specs.Write.{Torn}

-- The n bytes that the file has from this place on, up to the buffer's length, stand at the buffer's front.
pub record Reads (file : List ℕ) (at : ℕ) (buffer : List ℕ) (n : ℕ) : Type 0 where
  pub count : n ≡ min (length buffer) (length file - at)
  pub bytes : take n buffer ≡ take n (drop at file)

-- a write of n bytes of this file was done in part, and the other files stay
pub record TornIn (file : Which) (at n : ℕ) (old new : Image) : Type 0 where
  pub torn : Torn at n (bytes_of old file) (bytes_of new file)
  pub others : SameOthers file old new

-- the same of an image; where the contents are told, the file is as long as in the older image, or as it is read after the write
pub record TornImage (file : Which) (at n : ℕ) (told : Option Image) (old new : Image) : Type 0 where
  pub write : TornIn file at n old new
  pub long : IfSome told (λ now. (length (bytes_of new file) ≡ length (bytes_of old file)) ⊎ (length (bytes_of new file) ≡ length (bytes_of now file)))

-- each image is one from before, after this step
abbrev pub Follows : (Image → Image → Type 0) → (Image → Type 0) → (Image → Type 0) → Type 0
Follows step old new = (c : Image) → new c → (d : Image) × old d × step d c

-- each image was one before
abbrev pub Shrinks : (Image → Type 0) → (Image → Type 0) → Type 0
Shrinks old new = (c : Image) → new c → old c

-- the images are the same
abbrev pub Same : (Image → Type 0) → (Image → Type 0) → Type 0
Same old new = Shrinks old new × Shrinks new old

-- whatever a crash could leave of the other files, it can leave still
abbrev pub KeepsOthers : Which → (Image → Type 0) → (Image → Type 0) → Type 0
KeepsOthers file old new = (c : Image) → old c → (d : Image) × new d × SameOthers file c d

-- a crash leaves these bytes of the file, and no others
abbrev pub FileIs : Which → List ℕ → (Image → Type 0) → Type 0
FileIs file bytes images = (c : Image) → images c → bytes_of c file ≡ bytes

-- Time goes on: a crash since t might have left what it might have left before this call, or what it may leave after it.
pub record Elapses (before now : ℕ) (past since : ℕ → Image → Type 0) (images : Image → Type 0) : Type 0 where
  pub later : before ≤ now
  pub nothing_else : (t : ℕ) (c : Image) → t ≤ before → since t c → past t c ⊎ images c
  pub keeps : (t : ℕ) (c : Image) → t ≤ before → past t c → since t c

-- the last value of a count: 64 bits hold no more
abbrev pub last_count : ℕ
last_count = 18446744073709551615

-- the count rose, or stands at its last value
abbrev pub Rose : ℕ → ℕ → Type 0
Rose before now = (before < now) ⊎ (last_count ≤ now)

-- the count does not fall, and Failed comes only where it rose
pub record HasCause {T : Type 0} (before now : ℕ) (result : Result T Failed) : Type 0 where
  pub later : before ≤ now
  pub failed : IsErr result → Rose before now
