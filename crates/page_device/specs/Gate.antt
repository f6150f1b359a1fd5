-- A body behind a closed gate: one byte of a file that is 1 where what stands behind it counts.
use Rattle.std.specs.Prelude.{◌≡◌, ◌⊎◌, ℕ, ◌+◌, ◌<◌, ◌↔◌, Bool, IsTrue, List, ◌∷◌, ◌++◌, length, take, drop, slice_index}
use Rattle.page_device.specs.declared.device.Which.{Which}
use Rattle.page_device.specs.Image.{Image, bytes_of}
use Rattle.page_device.specs.Device.{FileIs}
use Rattle.page_device.specs.Run.{Each, OthersFrom, InPart}

-- the gate behind this front is not 1, whatever stands behind it
pub record Before (file : Which) (front : List ℕ) (c : Image) : Type 0 where
  pub gate : ℕ
  pub shut : gate ≡ 1 → ⊥
  pub rest : List ℕ
  pub is : bytes_of c file ≡ front ++ gate ∷ rest

-- the whole body stands behind a gate that may be anything
pub record Whole (file : Which) (front back : List ℕ) (c : Image) : Type 0 where
  pub gate : ℕ
  pub is : bytes_of c file ≡ front ++ gate ∷ back

-- Each image has the bytes that are read before the gate, and then a gate that is closed. What stands behind it may differ.
pub record IsAtRest (file : Which) (at : ℕ) (c : Image) (images : Image → Type 0) : Type 0 where
  pub long : at < length (bytes_of c file)
  pub each : Each images (Before file (take at (bytes_of c file)))

-- what stands behind the gate once the body is written
abbrev pub behind : ℕ → List ℕ → List ℕ → List ℕ
behind at body bytes = body ++ drop (at + 1 + length body) bytes

-- The body is not there. The gate is as it was, and so is every byte but those that the body takes behind it.
pub record Lacks (file : Which) (at : ℕ) (body : List ℕ) (c : Image) (old : Image → Type 0) (i : Image) : Type 0 where
  pub closed : Before file (take at (bytes_of c file)) i
  pub part : InPart file (at + 1) (length body) old i

-- The body is there, all of it; its gate may be anything. Before and behind it stand the bytes that were there.
abbrev pub HasBody : Which → ℕ → List ℕ → Image → Image → Type 0
HasBody file at body c i = Whole file (take at (bytes_of c file)) (behind at body (bytes_of c file)) i

-- the file's bytes with the body, its gate open
abbrev pub gated : Which → ℕ → List ℕ → Image → List ℕ
gated file at body c = take at (bytes_of c file) ++ 1 ∷ behind at body (bytes_of c file)

-- inside a call: the body is not there, or it is there but for its gate; the other files are those of an image from before
pub record AtAnyMoment (file : Which) (at : ℕ) (body : List ℕ) (c : Image) (old : Image → Type 0) (i : Image) : Type 0 where
  pub file_is : Lacks file at body c old i ⊎ HasBody file at body c i
  pub others : OthersFrom file old i

-- Each image has this body and the same bytes round it, but the body's gate may be anything.
pub record IsInDoubt (file : Which) (at : ℕ) (body : List ℕ) (images : Image → Type 0) : Type 0 where
  pub front : List ℕ
  pub rest : List ℕ
  pub long : length front ≡ at
  pub each : Each images (Whole file front (body ++ rest))

-- Each image has the file as it is read, and the answer is whether its gate is 1.
pub record IsSettled (file : Which) (at : ℕ) (c : Image) (images : Image → Type 0) (answer : Bool) : Type 0 where
  pub synced : FileIs file (bytes_of c file) images
  pub is_open : IsTrue answer ↔ (slice_index (bytes_of c file) at ≡ 1)
