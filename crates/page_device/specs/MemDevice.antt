-- What a contract sees of a device in memory.
use Rattle.std.specs.Prelude.{ℕ, Option, Some, length}
use Rattle.page_device.specs.declared.mem_device.MemDevice.{MemDevice}
use Rattle.page_device.specs.declared.plan.Plan.{Plan}
use Rattle.page_device.specs.Image.{Image}
use Rattle.page_device.specs.Memory.{Disk, image_of, disk_after, now_of, IsImage, WasImage}

-- each file as it was last synced, the writes since, and what is read
abbrev pub disk_of : MemDevice → Disk
disk_of m = disk_after (image_of m.first) m.done.items

-- which calls are to fail, and how many of each kind were made
abbrev pub plan_of : MemDevice → Plan
plan_of m = m.plan

-- how many calls have failed
abbrev pub faults_of : MemDevice → ℕ
faults_of m = m.failed

-- the five meanings of a device
abbrev pub contents_of : MemDevice → Option Image
contents_of m = Some (now_of (disk_of m))

-- a crash now may leave this image
abbrev pub MayLeave : MemDevice → Image → Type 0
MayLeave m c = IsImage (disk_of m) c

-- how many writes and syncs there were
abbrev pub moment_of : MemDevice → ℕ
moment_of m = length m.done.items

-- a crash at some moment from t on may have left this image
abbrev pub LeftSince : MemDevice → ℕ → Image → Type 0
LeftSince m t c = WasImage (image_of m.first) m.done.items t c
