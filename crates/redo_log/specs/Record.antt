-- A record's bytes. Numbers have eight bytes, the highest first.
use Rattle.std.specs.Prelude.{ℕ, Bool, if◌then◌else◌, List, [], ◌∷◌, ◌++◌, length, Option, Some, None}
use Rattle.std.specs.List.{flat_map}
use Rattle.std.specs.Int.{w64, to_be_bytes}
use Rattle.page_bytes.specs.declared.ids.Space.{Space}
use Rattle.page_bytes.specs.declared.ids.DocEntry.{DocEntry}
use Rattle.page_bytes.specs.declared.ids.PageId.{PageId}
use Rattle.page_bytes.specs.declared.lists.PageChange.{PageChange}
use Rattle.redo_log.specs.declared.change.LogName.{LogName}
use Rattle.redo_log.specs.declared.change.Change.{Change}

-- a number's eight bytes
unfoldable pub number : ℕ → List ℕ
number x = to_be_bytes w64 x

-- one byte of length, and the name
abbrev pub name_bytes : List ℕ → List ℕ
name_bytes name = length name ∷ name

-- the space's commit and ordinal
abbrev pub space_bytes : Space → List ℕ
space_bytes s = number s.commit ++ number s.ordinal

-- 0 flat, 1 clustered
abbrev pub form_byte : Bool → ℕ
form_byte clustered = if clustered then 1 else 0

-- a document's space and form
abbrev pub entry_bytes : DocEntry → List ℕ
entry_bytes e = space_bytes e.space ++ form_byte e.clustered ∷ []

-- a page's space and number
abbrev pub id_bytes : PageId → List ℕ
id_bytes id = space_bytes id.space ++ number id.number

-- a drop is 0 and the name; a set is 1, the name, the space and the form
abbrev pub named_bytes : List ℕ → Option DocEntry → List ℕ
named_bytes name None = 0 ∷ name_bytes name
named_bytes name (Some e) = 1 ∷ name_bytes name ++ space_bytes e.space ++ form_byte e.clustered ∷ []

-- the bytes of one change of a name
abbrev pub name_change : LogName → List ℕ
name_change n = named_bytes n.name n.entry

-- 0 where the page is gone, and else 1 and its bytes
abbrev pub image_bytes : Option (List ℕ) → List ℕ
image_bytes None = 0 ∷ []
image_bytes (Some page) = 1 ∷ page

-- the page's space and number, and its bytes if it isn't gone
abbrev pub page_change : PageChange → List ℕ
page_change c = id_bytes c.id ++ image_bytes c.page

-- the commit, the changes of names after their count, the pages after theirs
abbrev pub body_of : Change → List ℕ
body_of c = number c.commit ++ number (length c.names) ++ flat_map name_change c.names ++ number (length c.pages) ++ flat_map page_change c.pages

-- what stands behind a record's gate: the body's length, the body, and the next gate, which is closed
abbrev pub tail_of : List ℕ → List ℕ
tail_of body = number (length body) ++ body ++ 0 ∷ []

-- a record whose gate is open, up to the next gate
abbrev pub record_of : Change → List ℕ
record_of c = 1 ∷ (number (length (body_of c)) ++ body_of c)
