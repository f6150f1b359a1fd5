-- What a plan says: each page with its slot, and the image that is written there if it is in no slot yet.
use Rattle.std.specs.Prelude.{◌≡◌, ◌≢◌, ℕ, ◌+◌, ◌≤◌, Bool, true, false, ◌==◌, List, [], ◌∷◌, length, map, Option, Some, None, IfSome}
use Rattle.std.specs.List.{AllByRecursion, list_any}
use Rattle.std.specs.FinMap as map
use Rattle.std.specs.Option.{option_map}
use Rattle.page_bytes.specs.declared.ids.PageId.{PageId}
use Rattle.page_bytes.specs.Known.{PageMap}
use Rattle.page_device.specs.declared.device.TheConstants.{LONGEST}
use Rattle.page_device.specs.Image.{Image}
use Rattle.page_versions.specs.declared.version.Version.{Version}
use Rattle.page_versions.specs.declared.version.Image.{Image as PageImage}
use Rattle.page_versions.specs.declared.version.Image.TheVariants.{Resident, Slot, Absent}
use Rattle.page_versions.specs.Chains.{version_at}
use Rattle.page_versions.specs.Kept.{Kept, chain_of}
use Rattle.slot_store.specs.declared.table.Row.{Row}
use Rattle.slot_store.specs.declared.state.SlotState.{SlotState}
use Rattle.slot_store.specs.declared.planning.Placed.{Placed}
use Rattle.slot_store.specs.declared.planning.MadePlan.{MadePlan}
use Rattle.slot_store.specs.declared.planning.CheckPlan.{CheckPlan}
use Rattle.slot_store.specs.declared.planning.CheckPlan.TheVariants.{Made, Spent}
use Rattle.slot_store.specs.declared.planning.TheConstants.{BUFFER_BYTES, LAST_SLOT}
use Rattle.slot_store.specs.Slots.{slot_in}
use Rattle.slot_store.specs.Head.{Head, front_bytes, head_bytes, names_of, EachPair, row_bytes}
use Rattle.slot_store.specs.Table.{with_row, without_row, slot_of}
use Rattle.slot_store.specs.Opens.{Opened}

-- The newest image of each page at a commit, in the order of pages, without those that are gone.
abbrev pub with_image : PageId → PageImage → List (PageId × PageImage) → List (PageId × PageImage)
with_image id (Resident page) rest = (id, Resident page) ∷ rest
with_image id (Slot slot) rest = (id, Slot slot) ∷ rest
with_image id Absent rest = rest

abbrev pub with_version : PageId → Option Version → List (PageId × PageImage) → List (PageId × PageImage)
with_version id None rest = rest
with_version id (Some v) rest = with_image id v.image rest

-- the same of all pages that have a chain
abbrev pub newest_images : ℕ → List (PageId × List Version) → List (PageId × PageImage)
newest_images commit [] = []
newest_images commit (e ∷ es) = with_version e.0 (version_at e.1 commit) (newest_images commit es)

-- what a placed page was before: in the slot, where nothing is written
abbrev pub image_before : ℕ → Option (List ℕ) → PageImage
image_before slot None = Slot slot
image_before slot (Some page) = Resident page

-- the page and its image before
abbrev pub before_of : Placed → PageId × PageImage
before_of p = (p.id, image_before p.slot p.page)

-- a page's row in the new table
abbrev pub row_of : Placed → Row
row_of p = record { id = p.id; slot = p.slot }

-- the bytes of that row
abbrev pub placed_bytes : Placed → List ℕ
placed_bytes p = row_bytes (row_of p)

-- the slots that are written, in the order of pages
abbrev pub slot_if : ℕ → Option (List ℕ) → List ℕ → List ℕ
slot_if slot None rest = rest
slot_if slot (Some page) rest = slot ∷ rest

abbrev pub written_slots : List Placed → List ℕ
written_slots [] = []
written_slots (p ∷ ps) = slot_if p.slot p.page (written_slots ps)

-- a page's image: what is written, or the bytes of its slot
abbrev pub image_in : List ℕ → ℕ → Option (List ℕ) → List ℕ
image_in bytes slot None = slot_in bytes slot
image_in bytes slot (Some page) = page

-- the pages with these placed ones
abbrev pub with_placed : List ℕ → List Placed → PageMap → PageMap
with_placed bytes [] pages = pages
with_placed bytes (p ∷ ps) pages = with_placed bytes ps (map.insert pages p.id (image_in bytes p.slot p.page))

-- the plan's pages, where the slot file has these bytes
abbrev pub placed_map : List ℕ → List Placed → PageMap
placed_map bytes placed = with_placed bytes placed map.empty

-- holds of the plan, where it is made
abbrev pub IfMade : CheckPlan → (MadePlan → Type 0) → Type 0
IfMade (Made plan) P = P plan
IfMade (Spent kind number) P = Unit {0}

-- holds where a number is spent
abbrev pub IfSpent : CheckPlan → Type 0 → Type 0
IfSpent (Made plan) P = Unit {0}
IfSpent (Spent kind number) P = P

-- the pages that are placed; none where a number is spent
abbrev pub placed_in : CheckPlan → List Placed
placed_in (Made plan) = plan.placed.items
placed_in (Spent kind number) = []

-- the plan's head
abbrev pub head_of : MadePlan → Head
head_of p = record { generation = p.generation; commit = p.commit; entries = p.entries.value; rows = map row_of p.placed.items }

-- the plan's commit number, catalogue and pages
abbrev pub opened_of : MadePlan → Image → Opened
opened_of p c = record { commit = p.commit; names = names_of p.entries.value; pages = placed_map c.slots p.placed.items }

-- a row of the table has the slot
abbrev pub is_in_table : List Row → ℕ → Bool
is_in_table rows slot = list_any (λ r. r.slot == slot) rows

-- A page that is not written stands in a slot of the table; one that is written goes to another slot, which is not past the last.
abbrev pub IsPlaced : List Row → ℕ → Option (List ℕ) → Type 0
IsPlaced table slot None = is_in_table table slot ≡ true
IsPlaced table slot (Some page) = (is_in_table table slot ≡ false) × (slot ≤ LAST_SLOT)

-- the same of a placed page
abbrev pub IsPlacedIn : List Row → Placed → Type 0
IsPlacedIn table p = IsPlaced table p.slot p.page

-- a slot that is written is not past the last
abbrev pub HasRoom : Placed → Type 0
HasRoom p = IfSome p.page (λ _. p.slot ≤ LAST_SLOT)

-- two placed pages have two slots
abbrev pub AreApart : Placed → Placed → Type 0
AreApart p q = p.slot ≢ q.slot

-- The plan was made for the state as it is: its head is the other log's, of the next generation; what it writes goes to slots
-- that the table doesn't name, no two to one slot; the head with its first gate fits the file.
pub record IsMadeFor (state : SlotState) (plan : MadePlan) : Type 0 where
  pub log : plan.log ≡ state.log
  pub generation : plan.generation ≡ state.generation + 1
  pub table : plan.table ≡ map row_of plan.placed.items
  pub front : plan.front.items ≡ front_bytes plan.generation plan.commit plan.entries.value (length plan.placed.items)
  pub placed : AllByRecursion (IsPlacedIn state.table) plan.placed.items
  pub apart : EachPair AreApart plan.placed.items
  pub fits : length (head_bytes (head_of plan)) + 2 ≤ LONGEST
  pub buffer : length plan.buffer.items ≡ BUFFER_BYTES

-- no image in a slot is in one that the table doesn't name
abbrev pub IsTabled : List Row → PageImage → Type 0
IsTabled table (Resident page) = Unit {0}
IsTabled table (Slot slot) = is_in_table table slot ≡ true
IsTabled table Absent = Unit {0}

-- two images are not in one slot
abbrev pub AreInTwo : PageImage → PageImage → Type 0
AreInTwo (Slot s) (Slot t) = s ≢ t
AreInTwo (Slot s) (Resident page) = Unit {0}
AreInTwo (Slot s) Absent = Unit {0}
AreInTwo (Resident page) y = Unit {0}
AreInTwo Absent y = Unit {0}

-- the image that a page has at a commit
abbrev pub image_at : Kept → ℕ → PageId → Option PageImage
image_at kept commit id = option_map (λ v. v.image) (version_at (chain_of kept id) commit)

-- The images of these versions that are in slots are where the state's table has them: each in the slot of its page's row, no
-- two in one slot.
pub record FitsVersions (state : SlotState) (kept : Kept) (commit : ℕ) : Type 0 where
  pub known : (id : PageId) (slot : ℕ) → image_at kept commit id ≡ Some (Slot slot) → slot_of id state.table ≡ Some slot
  pub apart : (a b : PageId) (slot : ℕ) → image_at kept commit a ≡ Some (Slot slot) → image_at kept commit b ≡ Some (Slot slot) → a ≡ b

-- whether a page has an image
abbrev pub is_bytes : PageImage → Bool
is_bytes (Resident page) = true
is_bytes (Slot slot) = true
is_bytes Absent = false

abbrev pub is_image : Option PageImage → Bool
is_image None = false
is_image (Some image) = is_bytes image

-- the rows without that of a page that has no image
abbrev pub cut_gone : Bool → PageId → List Row → List Row
cut_gone true id rows = rows
cut_gone false id rows = without_row id rows

-- the table without the rows of those of these pages that have no image at the commit
abbrev pub without_gone : Kept → ℕ → List Row → List Row → List Row
without_gone kept commit [] table = table
without_gone kept commit (r ∷ rs) table = without_gone kept commit rs (cut_gone (is_image (image_at kept commit r.id)) r.id table)

-- the rows with that of a page which is written
abbrev pub put_if : Option (List ℕ) → Row → List Row → List Row
put_if None r rows = rows
put_if (Some page) r rows = with_row r rows

-- the rows with those of all pages which are written
abbrev pub with_written : List Placed → List Row → List Row
with_written [] rows = rows
with_written (p ∷ ps) rows = with_written ps (put_if p.page (row_of p) rows)
