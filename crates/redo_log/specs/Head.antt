-- How the head of a log is read, field by field, with the first wrong field. The fields of a head are read as those of a
-- record are, and a wrong one is named as there: by how many bytes of the file stand from it on.
use Rattle.std.specs.Prelude.{ℕ, zero, suc, ◌+◌, ◌-◌, ◌*◌, Bool, true, not, ◌==◌, ◌&&◌, nat_lt, nat_le, List, [], ◌∷◌, ◌++◌, length, map, Option, Some, None, Result, Ok}
use Rattle.std.specs.List.{list_any}
use Rattle.std.specs.FinMap as finite
use Rattle.page_bytes.specs.declared.page.TheConstants.{PAGE_BYTES}
use Rattle.page_bytes.specs.declared.ids.PageId.{PageId}
use Rattle.page_bytes.specs.declared.ids.DocEntry.{DocEntry}
use Rattle.page_bytes.specs.declared.lists.PageChange.{PageChange}
use Rattle.page_bytes.specs.Known.{PageIds, Spaces}
use Rattle.redo_log.specs.declared.change.LogName.{LogName}
use Rattle.redo_log.specs.declared.store.Store.{Store}
use Rattle.redo_log.specs.Record.{name_change}
use Rattle.redo_log.specs.Store.{has_space, after_name, with_ids, store_of}
use Rattle.redo_log.specs.Reading.{◌>>=◌, check, number_at, byte_at, bytes_at, is_name, last_in, is_next_name, id_at, has_home}

-- a page, and the slot that has its image
pub record Row : Type 0 where
  pub id : PageId
  pub slot : ℕ

-- what a head says
pub record Head : Type 0 where
  pub generation : ℕ
  pub commit : ℕ
  pub entries : List LogName
  pub rows : List Row

-- a page of a head is read after the last one as a page of a record is
abbrev pub as_change : Row → PageChange
as_change r = record { id = r.id; page = None }

-- the last page of those that are done
abbrev pub last_page : List Row → Option PageChange
last_page done = last_in (map as_change done)

-- the pages that these rows name
abbrev pub ids_of : List Row → List PageId
ids_of rows = map (λ r. r.id) rows

-- A document's space and form: the space has a commit from 1 on that isn't past the head's, and is no other document's.
unfoldable pub document_entry_at : ℕ → Spaces → List ℕ → Result (DocEntry × List ℕ) ℕ
document_entry_at commit spaces bytes = do
  c ← number_at bytes
  came ← check (nat_lt 0 c.0 && nat_le c.0 commit) (length bytes)
  o ← number_at c.1
  own ← check (not (has_space spaces (record { commit = c.0; ordinal = o.0 }))) (length bytes)
  form ← byte_at o.1
  known ← check (nat_lt form.0 2) (length o.1)
  Ok (record { space = record { commit = c.0; ordinal = o.0 }; clustered = form.0 == 1 }, form.1)

-- One document, after those that are done. A wrong name is named by its length.
unfoldable pub document_at : ℕ → List LogName → Spaces → List ℕ → Result (LogName × List ℕ) ℕ
document_at commit done spaces bytes = do
  long ← byte_at bytes
  name ← bytes_at long.0 long.1
  good ← check (is_name name.0) (length bytes)
  next ← check (is_next_name (last_in done) true name.0) (length bytes)
  entry ← document_entry_at commit spaces name.1
  Ok (record { name = name.0; entry = Some entry.0 }, entry.1)

-- So many more documents, after those that are done. The store is as these make it.
unfoldable pub documents_at : ℕ → ℕ → List LogName → Store → List ℕ → Result (List LogName × List ℕ) ℕ
documents_at commit zero done s bytes = Ok (done, bytes)
documents_at commit (suc n) done s bytes = do
  first ← document_at commit done s.spaces bytes
  documents_at commit n (done ++ first.0 ∷ []) (after_name first.0 s) first.1

-- slot k is the 4,096 bytes from k * 4,096 on; all of them are in a slot file of so many bytes
abbrev pub is_inside : ℕ → ℕ → Bool
is_inside held slot = nat_le (slot * PAGE_BYTES + PAGE_BYTES) held

-- none of these pages is in the slot
abbrev pub is_unnamed : ℕ → List Row → Bool
is_unnamed slot done = not (list_any (λ r. r.slot == slot) done)

-- One page, after those that are done, and its slot, which is inside the slot file and has no other page.
unfoldable pub row_at : ℕ → List Row → Spaces → List ℕ → Result (Row × List ℕ) ℕ
row_at held done spaces bytes = do
  id ← id_at (last_page done) spaces bytes
  slot ← number_at id.1
  own ← check (is_inside held slot.0 && is_unnamed slot.0 done) (length id.1)
  Ok (record { id = id.0; slot = slot.0 }, slot.1)

-- So many more pages, after those that are done.
unfoldable pub rows_at : ℕ → ℕ → List Row → Spaces → List ℕ → Result (List Row × List ℕ) ℕ
rows_at held zero done spaces bytes = Ok (done, bytes)
rows_at held (suc n) done spaces bytes = do
  first ← row_at held done spaces bytes
  rows_at held n (done ++ first.0 ∷ []) spaces first.1

-- how many bytes a document has in a head: those of a record that sets it, without the kind
abbrev pub document_length : LogName → ℕ
document_length n = length (name_change n) - 1

-- each document has its page 0; the first that hasn't is named by its name's length. The documents begin where so many
-- bytes are left.
abbrev pub documents_housed : PageIds → List LogName → ℕ → Result (Unit {0}) ℕ
documents_housed pages [] left = Ok tt
documents_housed pages (n ∷ ns) left = do
  housed ← check (has_home pages n.entry) left
  documents_housed pages ns (left - document_length n)

-- the store of these documents, without pages
abbrev pub documents_of : ℕ → List LogName → Store
documents_of commit entries = store_of commit entries []

-- A head, from its generation on, where the slot file has so many bytes. First the fields in their order, the gate of the
-- first record among them; then the documents without page 0.
unfoldable pub head_at : ℕ → List ℕ → Result (Head × List ℕ) ℕ
head_at held bytes = do
  generation ← number_at bytes
  commit ← number_at generation.1
  named ← number_at commit.1
  paged ← number_at named.1
  entries ← documents_at commit.0 named.0 [] (documents_of commit.0 []) paged.1
  rows ← rows_at held paged.0 [] (documents_of commit.0 entries.0).spaces entries.1
  gate ← check (nat_lt 0 (length rows.1)) 0
  housed ← documents_housed (with_ids (ids_of rows.0) finite.empty) entries.0 (length paged.1)
  Ok (record { generation = generation.0; commit = commit.0; entries = entries.0; rows = rows.0 }, rows.1)
