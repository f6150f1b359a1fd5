-- What the three files hold at one moment.
use Rattle.std.specs.Prelude.{◌≡◌, ℕ, ◌≤◌, List, length}
use Rattle.page_device.specs.declared.device.TheConstants.{LONGEST}
use Rattle.page_device.specs.declared.device.Which.{Which}
use Rattle.page_device.specs.declared.device.Which.TheVariants.{Slots, LogA, LogB}

-- the bytes of the page file and of both logs
pub record Image : Type 0 where
  pub slots : List ℕ
  pub log_a : List ℕ
  pub log_b : List ℕ

-- what this file holds
abbrev pub bytes_of : Image → Which → List ℕ
bytes_of c Slots = c.slots
bytes_of c LogA = c.log_a
bytes_of c LogB = c.log_b

-- the same, but for what this file holds
abbrev pub with_bytes : Image → Which → List ℕ → Image
with_bytes c Slots bytes = record { slots = bytes; log_a = c.log_a; log_b = c.log_b }
with_bytes c LogA bytes = record { slots = c.slots; log_a = bytes; log_b = c.log_b }
with_bytes c LogB bytes = record { slots = c.slots; log_a = c.log_a; log_b = bytes }

-- the other two files hold the same in both
abbrev pub SameOthers : Which → Image → Image → Type 0
SameOthers file c d = d ≡ with_bytes c file (bytes_of d file)

-- no file is longer than a place can be
abbrev pub IsBounded : Image → Type 0
IsBounded c = (file : Which) → length (bytes_of c file) ≤ LONGEST
