-- What a device in memory keeps: its record of writes and syncs, and all that follows from it.
use Rattle.std.specs.Prelude.{◌≡◌, ◌⊎◌, ℕ, ◌≤◌, List, [], ◌∷◌, ◌++◌, length, take, Option, Some, None, Vec, vec_capacity}
use Rattle.std.specs.declared.alloc.Global.{Global}
use Rattle.page_device.specs.declared.device.Which.{Which}
use Rattle.page_device.specs.declared.device.Which.TheVariants.{Slots, LogA, LogB}
use Rattle.page_device.specs.declared.memory.Files.{Files}
use Rattle.page_device.specs.declared.memory.Versions.{Versions}
use Rattle.page_device.specs.declared.memory.Pick.{Pick}
use Rattle.page_device.specs.declared.memory.Pick.TheVariants.{Old, New, Ones}
use Rattle.page_device.specs.declared.memory.Done.{Done}
use Rattle.page_device.specs.declared.memory.Done.TheVariants.{Wrote, Synced}
use Rattle.page_device.specs.Image.{Image, bytes_of, with_bytes}
use Rattle.page_device.specs.Write.{overlay, filled, Torn}

-- the three files as an image
abbrev pub image_of : Files → Image
image_of f = record { slots = f.slots.items; log_a = f.log_a.items; log_b = f.log_b.items }

-- how long this file may become without taking memory
abbrev pub room_of : Files → Which → ℕ
room_of f Slots = vec_capacity f.slots
room_of f LogA = vec_capacity f.log_a
room_of f LogB = vec_capacity f.log_b

-- one write since the last sync: its range, and the length of the file after it
pub record Extent : Type 0 where
  pub at : ℕ
  pub count : ℕ
  pub long : ℕ

-- one file: what it held at its last sync, the writes since, and what a read gives
pub record Kept : Type 0 where
  pub synced : List ℕ
  pub writes : List Extent
  pub now : List ℕ

-- the three files
pub record Disk : Type 0 where
  pub slots : Kept
  pub log_a : Kept
  pub log_b : Kept

-- this file of the three
abbrev pub kept_of : Disk → Which → Kept
kept_of d Slots = d.slots
kept_of d LogA = d.log_a
kept_of d LogB = d.log_b

-- the three files, this one with this kept
abbrev pub with_kept : Disk → Which → Kept → Disk
with_kept d Slots k = record { slots = k; log_a = d.log_a; log_b = d.log_b }
with_kept d LogA k = record { slots = d.slots; log_a = k; log_b = d.log_b }
with_kept d LogB k = record { slots = d.slots; log_a = d.log_a; log_b = k }

-- a file that is synced
abbrev pub at_rest : List ℕ → Kept
at_rest bytes = record { synced = bytes; writes = []; now = bytes }

-- three files that are synced
abbrev pub opened : Image → Disk
opened c = record { slots = at_rest c.slots; log_a = at_rest c.log_a; log_b = at_rest c.log_b }

-- one file after a write
abbrev pub wrote : Kept → ℕ → List ℕ → Kept
wrote k at bytes = let now = overlay k.now at bytes in
    record { synced = k.synced; writes = k.writes ++ record { at = at; count = length bytes; long = length now } ∷ []; now = now }

-- the three files after a write of one
abbrev pub after_write : Disk → Which → ℕ → List ℕ → Disk
after_write d file at bytes = with_kept d file (wrote (kept_of d file) at bytes)

-- and after a sync of one
abbrev pub after_sync : Disk → Which → Disk
after_sync d file = with_kept d file (at_rest (kept_of d file).now)

-- the three files after one write or one sync
abbrev pub step : Disk → Done → Disk
step d (Wrote file at bytes) = after_write d file at bytes.items
step d (Synced file) = after_sync d file

-- after all of them, in order
abbrev pub run : Disk → List Done → Disk
run d [] = d
run d (m ∷ ms) = run (step d m) ms

-- what the record makes of what the files held at first
abbrev pub disk_after : Image → List Done → Disk
disk_after first ms = run (opened first) ms

-- what a read gives
abbrev pub now_of : Disk → Image
now_of d = record { slots = d.slots.now; log_a = d.log_a.now; log_b = d.log_b.now }

-- what each file held at its last sync
abbrev pub synced_of : Disk → Image
synced_of d = record { slots = d.slots.synced; log_a = d.log_a.synced; log_b = d.log_b.synced }

-- The write was done, in part, or not at all: any bytes in its range and past the end, and the file is as long as before, or as it was read after this write.
pub record Tears (w : Extent) (old new : List ℕ) : Type 0 where
  pub torn : Torn w.at w.count old new
  pub long : (length new ≡ length old) ⊎ (length new ≡ w.long)

-- these writes, in order, each of them torn, lead from the one content to the other
abbrev pub Reaches : List ℕ → List Extent → List ℕ → Type 0
Reaches base [] c = c ≡ base
Reaches base (w ∷ ws) c = (mid : List ℕ) × Tears w base mid × Reaches mid ws c

-- a crash may leave this of the file
abbrev pub CanBe : Kept → List ℕ → Type 0
CanBe k c = Reaches k.synced k.writes c

-- a crash may leave this of the three files
pub record IsImage (d : Disk) (c : Image) : Type 0 where
  pub slots : CanBe d.slots c.slots
  pub log_a : CanBe d.log_a c.log_a
  pub log_b : CanBe d.log_b c.log_b

-- an image at some moment from t on
pub record WasImage (first : Image) (ms : List Done) (t : ℕ) (c : Image) : Type 0 where
  pub moment : ℕ
  pub from : t ≤ moment
  pub to : moment ≤ length ms
  pub is : IsImage (disk_after first (take moment ms)) c

-- the content with each byte that these writes reach, and each past its end, at 255
abbrev pub marked : List ℕ → List Extent → List ℕ
marked base [] = base
marked base (w ∷ ws) = marked (filled base w.at w.count) ws

-- the three files as last synced, with each byte that a write since reaches, and each past the end, at 255
abbrev pub ones_of : Disk → Image
ones_of d = record { slots = marked d.slots.synced d.slots.writes; log_a = marked d.log_a.synced d.log_a.writes; log_b = marked d.log_b.synced d.log_b.writes }

-- the three versions that are kept at run time
pub record Held : Type 0 where
  pub now : Image
  pub synced : Image
  pub ones : Image

-- what they are of a disk
abbrev pub held_by : Disk → Held
held_by d = record { now = now_of d; synced = synced_of d; ones = ones_of d }

-- the versions kept, as images
abbrev pub held_of_versions : Versions → Held
held_of_versions v = record { now = image_of v.now; synced = image_of v.synced; ones = image_of v.ones }

-- before the first write there are none, and all of them are what the files held at first
abbrev pub held_of : Files → Option Versions → Held
held_of first None = record { now = image_of first; synced = image_of first; ones = image_of first }
held_of first (Some v) = held_of_versions v

-- the versions after a write
abbrev pub held_after_write : Held → Which → ℕ → List ℕ → Held
held_after_write h file at bytes =
    record {
      now = with_bytes h.now file (overlay (bytes_of h.now file) at bytes);
      synced = h.synced;
      ones =
          with_bytes h.ones file (filled (bytes_of h.ones file) at (length bytes));
    }

-- and after a sync
abbrev pub held_after_sync : Held → Which → Held
held_after_sync h file = record { now = h.now; synced = with_bytes h.synced file (bytes_of h.now file); ones = with_bytes h.ones file (bytes_of h.now file) }

-- the version that is picked: unsynced bytes as last synced, as written, or each 255
abbrev pub picked_of : Held → Pick → Image
picked_of h Old = h.synced
picked_of h New = h.now
picked_of h Ones = h.ones

-- the image that a crash leaves
abbrev pub picked : Disk → Pick → Image
picked d pick = picked_of (held_by d) pick

-- one write joins the record
pub record Writes (file : Which) (at : ℕ) (bytes : List ℕ) (old new : List Done) : Type 0 where
  pub copy : Vec ℕ Global
  pub same : copy.items ≡ bytes
  pub joined : new ≡ old ++ Wrote file at copy ∷ []
