-- What an append and a settling leave of a log: a record is a body behind a gate, and the next gate ends it.
use Rattle.std.specs.Prelude.{◌≡◌, ℕ, ◌+◌, ◌↔◌, Bool, IsTrue, if◌then◌else◌, List, length, slice_index}
use Rattle.page_device.specs.Image.{Image, bytes_of}
use Rattle.page_device.specs.Device.{FileIs}
use Rattle.page_device.specs.Gate as gate
use Rattle.redo_log.specs.declared.end.LogEnd.{LogEnd}
use Rattle.redo_log.specs.Record.{tail_of}

-- Each image has the bytes that are read before the gate, and then a gate that is closed. What stands behind it may differ.
abbrev pub IsAtRest : LogEnd → Image → (Image → Type 0) → Type 0
IsAtRest end c images = gate.IsAtRest end.file end.at c images

-- the gate behind a record with this body
abbrev pub next_end : LogEnd → List ℕ → LogEnd
next_end end body = record { file = end.file; at = end.at + length (tail_of body) }

-- The record is not there. The gate is as it was, and so is every byte but those that the record takes behind it.
abbrev pub Lacks : LogEnd → List ℕ → Image → (Image → Type 0) → Image → Type 0
Lacks end body c old i = gate.Lacks end.file end.at (tail_of body) c old i

-- The record is there, all of it, with the next gate closed; its own gate may be anything. Before and behind it stand the bytes that were there.
abbrev pub HasBody : LogEnd → List ℕ → Image → Image → Type 0
HasBody end body c i = gate.HasBody end.file end.at (tail_of body) c i

-- the log's bytes with the record, its gate open
abbrev pub recorded : LogEnd → List ℕ → Image → List ℕ
recorded end body c = gate.gated end.file end.at (tail_of body) c

-- inside a call: the record is not there, or it is there but for its gate; the other files are those of an image from before
abbrev pub AtAnyMoment : LogEnd → List ℕ → Image → (Image → Type 0) → Image → Type 0
AtAnyMoment end body c old i = gate.AtAnyMoment end.file end.at (tail_of body) c old i

-- Each image has this record and the same bytes round it, but the record's gate may be anything.
abbrev pub IsInDoubt : LogEnd → List ℕ → (Image → Type 0) → Type 0
IsInDoubt end body images = gate.IsInDoubt end.file end.at (tail_of body) images

-- After a settling each image has the file as it is read, with the record; the answer is whether its gate is 1, and the
-- log's gate is the next one or the old one.
pub record Settles (end new : LogEnd) (body : List ℕ) (c : Image) (images : Image → Type 0) (stands : Bool) : Type 0 where
  pub synced : FileIs end.file (bytes_of c end.file) images
  pub whole : HasBody end body c c
  pub answer : IsTrue stands ↔ (slice_index (bytes_of c end.file) end.at ≡ 1)
  pub moved : new ≡ (if stands then next_end end body else end)
  pub rest : IsAtRest new c images
