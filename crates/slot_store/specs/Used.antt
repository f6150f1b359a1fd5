-- The slots that are in use: a table of the state names them, or a version of a page that is published.
use Rattle.std.specs.Prelude.{ℕ, Bool, ◌==◌, nat_le, if◌then◌else◌, List, [], ◌∷◌, ◌++◌, Option, Some, None, map}
use Rattle.std.specs.List.{list_any, flat_map}
use Rattle.std.specs.Coded.{Coded, coded_ℕ}
use Rattle.std.specs.Ordering.{nat_cmp}
use Rattle.std.specs.FinMap as set
use base.Stored.{coded_unit}
use Rattle.page_bytes.specs.declared.ids.PageId.{PageId}
use Rattle.page_versions.specs.declared.version.Version.{Version}
use Rattle.page_versions.specs.declared.version.Image.{Image as PageImage}
use Rattle.page_versions.specs.declared.version.Image.TheVariants.{Resident, Slot, Absent}
use Rattle.page_versions.specs.Chains.{is_seen_by}
use Rattle.page_versions.specs.Kept.{Kept}
use Rattle.slot_store.specs.declared.table.Row.{Row}
use Rattle.slot_store.specs.declared.state.SlotState.{SlotState}
use Rattle.slot_store.specs.declared.state.DoubtedHead.{DoubtedHead}

-- a set of slots
abbrev pub SlotIds : Type 0
SlotIds = set.FinMap nat_cmp (Unit {0})

-- how it is stored
abbrev pub slot_ids_code : Coded SlotIds
slot_ids_code = set.code coded_ℕ coded_unit

-- the set with these slots
abbrev pub with_slots : List ℕ → SlotIds → SlotIds
with_slots [] slots = slots
with_slots (s ∷ ss) slots = with_slots ss (set.insert slots s tt)

-- the slots that a table names
abbrev pub slots_of : List Row → List ℕ
slots_of rows = map (λ r. r.slot) rows

-- the same of a head in doubt, if there is one
abbrev pub slots_if : Option DoubtedHead → List ℕ
slots_if None = []
slots_if (Some head) = slots_of head.table

-- the slot of an image that is in one
abbrev pub slot_of_image : PageImage → List ℕ
slot_of_image (Resident page) = []
slot_of_image (Slot slot) = slot ∷ []
slot_of_image Absent = []

-- the slot of a version that is not after the commit
abbrev pub slot_of_version : ℕ → Version → List ℕ
slot_of_version commit v = if nat_le v.commit commit then slot_of_image v.image else []

-- the slots that versions of these chains are in, those after the commit left out
abbrev pub slots_of_chains : ℕ → List (PageId × List Version) → List ℕ
slots_of_chains commit entries = flat_map (λ (e : PageId × List Version). flat_map (slot_of_version commit) e.1) entries

-- the slots that the state's table, that of its head in doubt, or a version not after the commit names
abbrev pub used_slots : SlotState → ℕ → List (PageId × List Version) → List ℕ
used_slots state commit entries = slots_of state.table ++ slots_if state.doubt ++ slots_of_chains commit entries

-- whether a slot is in use
abbrev pub is_used : SlotState → ℕ → List (PageId × List Version) → ℕ → Bool
is_used state commit entries slot = list_any (λ t. t == slot) (used_slots state commit entries)

-- the slot of a version that an open snapshot sees
abbrev pub slot_if_seen : List (Option ℕ) → List Version → Version → List ℕ
slot_if_seen snapshots chain v = if list_any (is_seen_by chain v) snapshots then slot_of_image v.image else []

-- the slots that versions of these chains are in, where an open snapshot sees them
abbrev pub slots_seen : List (Option ℕ) → List (PageId × List Version) → List ℕ
slots_seen snapshots entries = flat_map (λ (e : PageId × List Version). flat_map (slot_if_seen snapshots e.1) e.1) entries

-- whether the table of the log that counts, that of a head in doubt, or a version that an open snapshot sees names the slot
abbrev pub is_named : SlotState → Kept → ℕ → Bool
is_named state kept slot =
    list_any (λ t. t == slot) (slots_of state.table ++ slots_if state.doubt ++ slots_seen kept.snapshots (set.entries kept.chains))
