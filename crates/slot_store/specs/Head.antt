-- The head of a log: a generation, a commit, the documents, and for each page the slot that has its image.
use Rattle.std.specs.Prelude.{◌≡◌, ◌≢◌, ℕ, ◌<◌, ◌≤◌, ◌^◌, List, [], ◌∷◌, ◌++◌, length, Option, Some, None, Contains, IsTrue}
use Rattle.std.specs.List.{flat_map, AllByRecursion}
use Rattle.std.specs.Ordering.{nat_cmp}
use Rattle.std.specs.Cmp.Lexicographic.{slice_cmp}
use Rattle.std.specs.declared.cmp.Ordering.TheVariants.{Less}
use Rattle.std.specs.FinMap as map
use Rattle.xq_ast.specs.declared.limits.TheConstants.{DOCUMENT_NAME_BYTES_MAX}
use Rattle.page_bytes.specs.declared.ids.Space.{Space}
use Rattle.page_bytes.specs.declared.ids.DocEntry.{DocEntry}
use Rattle.page_bytes.specs.Order.{page_cmp}
use Rattle.page_bytes.specs.Known.{PageMap}
use Rattle.redo_log.specs.declared.change.LogName.{LogName}
use Rattle.redo_log.specs.Record.{number, name_bytes, entry_bytes, id_bytes}
use Rattle.redo_log.specs.Reading.{is_name}
use Rattle.redo_log.specs.Names.{Names}
use Rattle.redo_log.specs.Store.{names_after}
use Rattle.slot_store.specs.declared.table.Row.{Row}
use Rattle.slot_store.specs.Slots.{slot_in}

-- what a head says
pub record Head : Type 0 where
  pub generation : ℕ
  pub commit : ℕ
  pub entries : List LogName
  pub rows : List Row

-- the 8 bytes by which a log is known, `XDBLOG01`
abbrev pub magic : List ℕ
magic = 88 ∷ 68 ∷ 66 ∷ 76 ∷ 79 ∷ 71 ∷ 48 ∷ 49 ∷ []

-- a document's space and form; a head has no name without a document
abbrev pub entry_part : Option DocEntry → List ℕ
entry_part None = []
entry_part (Some e) = entry_bytes e

-- a document: its name, its space, its form
abbrev pub document_bytes : LogName → List ℕ
document_bytes n = name_bytes n.name ++ entry_part n.entry

-- a page and its slot
abbrev pub row_bytes : Row → List ℕ
row_bytes r = id_bytes r.id ++ number r.slot

-- what stands between a head's gate and its pages, where there are so many pages
abbrev pub front_bytes : ℕ → ℕ → List LogName → ℕ → List ℕ
front_bytes generation commit entries pages = magic ++ number generation ++ number commit ++ number
    (length entries) ++ number pages ++ flat_map document_bytes entries

-- what stands behind a head's gate, up to the gate of the first record
abbrev pub head_bytes : Head → List ℕ
head_bytes h = front_bytes h.generation h.commit h.entries (length h.rows) ++ flat_map row_bytes h.rows

-- R holds of each one and each that comes after it
abbrev pub EachPair : {X : Type 0} → (X → X → Type 0) → List X → Type 0
EachPair R [] = Unit {0}
EachPair R (x ∷ xs) = AllByRecursion (R x) xs × EachPair R xs

-- the first of two names is before the second in the order of their bytes
abbrev pub IsNameBefore : LogName → LogName → Type 0
IsNameBefore a b = slice_cmp nat_cmp a.name b.name ≡ Less

-- two documents have two spaces
abbrev pub AreApart : Option DocEntry → Option DocEntry → Type 0
AreApart None f = Unit {0}
AreApart (Some e) None = Unit {0}
AreApart (Some e) (Some f) = e.space ≢ f.space

-- one of these documents has the space
abbrev pub has_space_of : Space → LogName → Type 0
has_space_of s n = (e : DocEntry) × (n.entry ≡ Some e) × (e.space ≡ s)

-- a document has a space of a commit from 1 on that is not past the head's
pub record IsDocument (commit : ℕ) (n : LogName) : Type 0 where
  pub name : IsTrue (is_name n.name)
  pub long : length n.name ≤ DOCUMENT_NAME_BYTES_MAX
  pub entry : DocEntry
  pub is : n.entry ≡ Some entry
  pub from : 0 < entry.space.commit
  pub not_past : entry.space.commit ≤ commit
  pub ordinal : entry.space.ordinal < 2 ^ 64

-- a page is of a document's space, and its numbers fit
pub record IsRow (entries : List LogName) (r : Row) : Type 0 where
  pub space : LogName
  pub there : Contains entries space
  pub own : has_space_of r.id.space space
  pub number : r.id.number < 2 ^ 64
  pub slot : r.slot < 2 ^ 64

-- the first of two pages is before the second
abbrev pub IsRowBefore : Row → Row → Type 0
IsRowBefore a b = page_cmp a.id b.id ≡ Less

-- two pages have two slots
abbrev pub HaveTwoSlots : Row → Row → Type 0
HaveTwoSlots a b = a.slot ≢ b.slot

-- the document has its page 0
pub record IsHoused (rows : List Row) (n : LogName) : Type 0 where
  pub row : Row
  pub there : Contains rows row
  pub own : has_space_of row.id.space n
  pub first : row.id.number ≡ 0

-- A head that a store takes: documents in the order of their names, each with a space of its own; pages in rising order, each
-- of a document's space, no two in one slot; page 0 of each document.
pub record IsRight (h : Head) : Type 0 where
  pub generation : h.generation < 2 ^ 64
  pub commit : h.commit < 2 ^ 64
  pub entries : length h.entries < 2 ^ 64
  pub rows : length h.rows < 2 ^ 64
  pub documents : AllByRecursion (IsDocument h.commit) h.entries
  pub names_rise : EachPair IsNameBefore h.entries
  pub own_spaces : EachPair (λ a b. AreApart a.entry b.entry) h.entries
  pub pages : AllByRecursion (IsRow h.entries) h.rows
  pub pages_rise : EachPair IsRowBefore h.rows
  pub own_slots : EachPair HaveTwoSlots h.rows
  pub housed : AllByRecursion (IsHoused h.rows) h.entries

-- the catalogue of these documents, and of those that come before them
abbrev pub names_with : List LogName → Names → Names
names_with [] names = names
names_with (n ∷ ns) names = names_with ns (names_after n.name n.entry names)

-- the catalogue of a head's documents
abbrev pub names_of : List LogName → Names
names_of entries = names_with entries map.empty

-- the pages with those of these rows, each with the bytes of its slot
abbrev pub with_rows : List ℕ → List Row → PageMap → PageMap
with_rows bytes [] pages = pages
with_rows bytes (r ∷ rs) pages = with_rows bytes rs (map.insert pages r.id (slot_in bytes r.slot))

-- the pages of these rows, where the slot file has these bytes
abbrev pub map_of : List ℕ → List Row → PageMap
map_of bytes rows = with_rows bytes rows map.empty
