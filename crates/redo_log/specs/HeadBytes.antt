-- How a head is spelled, and which heads are read again as they are spelled.
use Rattle.std.specs.Prelude.{◌≡◌, ℕ, ◌<◌, ◌^◌, IsTrue, true, not, ◌&&◌, nat_lt, nat_le, List, [], ◌∷◌, ◌++◌, length, Option, Some, None}
use Rattle.std.specs.List.{flat_map, list_all}
use Rattle.std.specs.FinMap as finite
use Rattle.page_bytes.specs.declared.ids.DocEntry.{DocEntry}
use Rattle.page_bytes.specs.Known.{Spaces}
use Rattle.redo_log.specs.declared.change.LogName.{LogName}
use Rattle.redo_log.specs.declared.store.Store.{Store}
use Rattle.redo_log.specs.Record.{number, name_bytes, entry_bytes, id_bytes}
use Rattle.redo_log.specs.Store.{has_space, has_commit, after_name, with_ids}
use Rattle.redo_log.specs.Reading.{last_in, is_name, is_next_name, is_next_commit, is_next_space, is_next_page, has_home}
use Rattle.redo_log.specs.Head.{Head, Row, last_page, ids_of, is_inside, is_unnamed, documents_of}

-- a document's space and form; a head has no name without a document
abbrev pub entry_part : Option DocEntry → List ℕ
entry_part None = []
entry_part (Some e) = entry_bytes e

-- a document: its name, its space, its form
abbrev pub document_bytes : LogName → List ℕ
document_bytes n = name_bytes n.name ++ entry_part n.entry

-- a page and its slot
abbrev pub row_bytes : Row → List ℕ
row_bytes r = id_bytes r.id ++ number r.slot

-- what stands between a head's 8 bytes and the gate of the first record
abbrev pub head_bytes : Head → List ℕ
head_bytes h = number h.generation ++ number h.commit ++ number (length h.entries) ++ number (length h.rows) ++ flat_map document_bytes h.entries
    ++ flat_map row_bytes h.rows

-- a document after those that are done: its name is one and comes next, its space is its own and of a commit up to the head's
pub record IsDocumentTaken (commit : ℕ) (done : List LogName) (spaces : Spaces) (n : LogName) : Type 0 where
  pub name : IsTrue (is_name n.name)
  pub next : IsTrue (is_next_name (last_in done) true n.name)
  pub entry : DocEntry
  pub is : n.entry ≡ Some entry
  pub commit_fits : entry.space.commit < 2 ^ 64
  pub ordinal_fits : entry.space.ordinal < 2 ^ 64
  pub from : IsTrue (nat_lt 0 entry.space.commit && nat_le entry.space.commit commit)
  pub own : IsTrue (not (has_space spaces entry.space))

-- each document is taken after those before it, on the store that they make
abbrev pub AreDocumentsTaken : ℕ → List LogName → Store → List LogName → Type 0
AreDocumentsTaken commit done s [] = Unit {0}
AreDocumentsTaken commit done s (n ∷ ns) = IsDocumentTaken commit done s.spaces n × AreDocumentsTaken commit (done ++ n ∷ []) (after_name n s) ns

-- a page after those that are done: its numbers fit, its space is a document's, it comes next, its slot is there and its own
pub record IsRowTaken (held : ℕ) (done : List Row) (spaces : Spaces) (r : Row) : Type 0 where
  pub commit : r.id.space.commit < 2 ^ 64
  pub ordinal : r.id.space.ordinal < 2 ^ 64
  pub number : r.id.number < 2 ^ 64
  pub slot : r.slot < 2 ^ 64
  pub from : IsTrue (is_next_commit (last_page done) r.id.space.commit && has_commit spaces r.id.space.commit)
  pub own : IsTrue (is_next_space (last_page done) r.id.space && has_space spaces r.id.space)
  pub next : IsTrue (is_next_page (last_page done) r.id)
  pub place : IsTrue (is_inside held r.slot && is_unnamed r.slot done)

-- each page is taken after those before it
abbrev pub AreRowsTaken : ℕ → List Row → Spaces → List Row → Type 0
AreRowsTaken held done spaces [] = Unit {0}
AreRowsTaken held done spaces (r ∷ rs) = IsRowTaken held done spaces r × AreRowsTaken held (done ++ r ∷ []) spaces rs

-- a head that is taken where the slot file has so many bytes: its documents, its pages, and page 0 of each document
pub record IsHeadTaken (held : ℕ) (h : Head) : Type 0 where
  pub generation : h.generation < 2 ^ 64
  pub commit : h.commit < 2 ^ 64
  pub entries_fit : length h.entries < 2 ^ 64
  pub rows_fit : length h.rows < 2 ^ 64
  pub documents : AreDocumentsTaken h.commit [] (documents_of h.commit []) h.entries
  pub pages : AreRowsTaken held [] (documents_of h.commit h.entries).spaces h.rows
  pub housed : IsTrue (list_all (λ n. has_home (with_ids (ids_of h.rows) finite.empty) n.entry) h.entries)

-- the bytes spell a head that is taken, where the slot file has so many bytes, and then the rest
abbrev pub SpellHead : ℕ → Head → List ℕ → List ℕ → Type 0
SpellHead held h bytes rest = (bytes ≡ head_bytes h ++ rest) × IsHeadTaken held h
