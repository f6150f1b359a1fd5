-- What a run of several calls of a device leaves.
use Rattle.std.specs.Prelude.{◌⊎◌, ℕ, ◌≤◌}
use Rattle.page_device.specs.declared.device.Which.{Which}
use Rattle.page_device.specs.Image.{Image, SameOthers}
use Rattle.page_device.specs.Device.{TornIn}

-- each of these images has P
abbrev pub Each : (Image → Type 0) → (Image → Type 0) → Type 0
Each images P = (c : Image) → images c → P c

-- A crash at any moment since the run began leaves an image that has P.
pub record LeavesOnly {D : Type 0} (moment : D → ℕ) (left_since : D → ℕ → Image → Type 0) (old new : D) (P : Image → Type 0) : Type 0 where
  pub later : moment old ≤ moment new
  pub each : (c : Image) → left_since new (moment old) c → P c
  -- of a longer run, that began before this one
  pub before : (t : ℕ) (c : Image) → t ≤ moment old → left_since new t c → left_since old t c ⊎ P c

-- the other files are those of one of these images
pub record OthersFrom (file : Which) (images : Image → Type 0) (c : Image) : Type 0 where
  pub was : Image
  pub is_old : images was
  pub same : SameOthers file was c

-- an image from before, in which a write of n bytes of this file was done in part, or not at all
pub record InPart (file : Which) (at n : ℕ) (old : Image → Type 0) (i : Image) : Type 0 where
  pub was : Image
  pub is_old : old was
  pub torn : TornIn file at n was i
