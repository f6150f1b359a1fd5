-- What a checkpoint finds, and what it leaves at each answer.
use Rattle.std.specs.Prelude.{◌≡◌, ℕ, Bool, true, false, List, ◌∷◌, ◌++◌, Option, Some, None, IfNone}
use Rattle.std.specs.List.{AllByRecursion}
use Rattle.page_device.specs.Image.{Image, bytes_of}
use Rattle.page_device.specs.Device.{FileIs}
use Rattle.page_device.specs.Run.{Each}
use Rattle.page_device.specs.declared.device.Which.TheVariants.{Slots}
use Rattle.slot_store.specs.declared.planning.Placed.{Placed}
use Rattle.slot_store.specs.declared.planning.MadePlan.{MadePlan}
use Rattle.slot_store.specs.declared.state.SlotState.{SlotState}
use Rattle.slot_store.specs.declared.state.DoubtedHead.{DoubtedHead}
use Rattle.slot_store.specs.Slots.{slot_in}
use Rattle.slot_store.specs.Logs.{other_log, other_file}
use Rattle.slot_store.specs.Head.{Head, head_bytes, IsRight}
use Rattle.slot_store.specs.Opens.{Opened, OpensBy, OpensFresh}
use Rattle.slot_store.specs.Planned.{opened_of, head_of, written_slots}
use Rattle.slot_store.specs.Steps.{HasGate, SlotsStand, HasImage}

-- The image opens to this by the head of the state's log, with the state's generation and table; the other log has a first byte.
pub record IsAt (state : SlotState) (o : Opened) (i : Image) : Type 0 where
  pub head : Head
  pub generation : head.generation ≡ state.generation
  pub rows : head.rows ≡ state.table
  pub opens : OpensBy state.log head o i
  pub gate : HasGate (other_file state.log) i

-- a page that the plan writes nothing for stands in its slot as it is read
abbrev pub StandsAs : Image → Image → ℕ → Option (List ℕ) → Type 0
StandsAs c i slot page = IfNone page (slot_in i.slots slot ≡ slot_in c.slots slot)

-- The image opens to the plan's commit number, catalogue and pages as they are read, by the state's head.
pub record IsPlanned (state : SlotState) (plan : MadePlan) (c i : Image) : Type 0 where
  pub at_rest : IsAt state (opened_of plan c) i
  pub stand : AllByRecursion (λ (p : Placed). StandsAs c i p.slot p.page) plan.placed.items

-- Where the device tells its contents: each image opens to the plan's commit number, catalogue and pages, by the state's head, and
-- has a first byte in the other log; and a store takes the plan's head.
pub record IsReady (state : SlotState) (plan : MadePlan) (c : Image) (images : Image → Type 0) : Type 0 where
  pub each : Each images (IsPlanned state plan c)
  pub right : IsRight (head_of plan)

-- The other log's head is whole but for its gate, which may be anything: where it is 1, the image opens to the same by this head
-- and without records, and else by the head before it.
pub record IsInDoubt (state : SlotState) (head : Head) (rest : List ℕ) (o : Opened) (i : Image) : Type 0 where
  pub gate : ℕ
  pub is : bytes_of i (other_file state.log) ≡ gate ∷ (head_bytes head ++ 0 ∷ rest)
  pub new : gate ≡ 1 → OpensFresh (other_log state.log) head o i
  pub old : (gate ≡ 1 → ⊥) → IsAt state o i

-- Before the gate's write: each image has the slot file as it is read, with all images of the plan, and the other log with the
-- plan's head whole behind one gate that is not 1.
pub record IsPrepared (state : SlotState) (plan : MadePlan) (c d : Image) (images : Image → Type 0) : Type 0 where
  pub synced : FileIs Slots d.slots images
  pub stand : SlotsStand (written_slots plan.placed.items) c d
  pub has : AllByRecursion (HasImage d.slots) plan.placed.items
  pub gate : ℕ
  pub shut : gate ≡ 1 → ⊥
  pub rest : List ℕ
  pub head : FileIs (other_file state.log) (gate ∷ (head_bytes (head_of plan) ++ 0 ∷ rest)) images
  pub read : bytes_of d (other_file state.log) ≡ gate ∷ (head_bytes (head_of plan) ++ 0 ∷ rest)

-- the state by a head that was in doubt
abbrev pub by_head : SlotState → Option DoubtedHead → SlotState
by_head s None = s
by_head s (Some h) = record { log = other_log s.log; generation = h.generation; table = h.table; doubt = None }

-- the state once its head in doubt is settled: it counts, or not
abbrev pub settled : SlotState → Bool → SlotState
settled s true = by_head s s.doubt
settled s false = record { log = s.log; generation = s.generation; table = s.table; doubt = None }

-- what an image opens by where this head of the other log counts, or not
abbrev pub IsSettledAs : SlotState → Head → Opened → Bool → Image → Type 0
IsSettledAs s head o true i = OpensFresh (other_log s.log) head o i
IsSettledAs s head o false i = IsAt s o i
