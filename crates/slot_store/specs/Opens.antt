-- What the three files open to: the head of the log that counts, and the records behind it whose gates are open.
use Rattle.std.specs.Prelude.{◌≡◌, ◌⊎◌, ℕ, ◌<◌, List, [], ◌∷◌, ◌++◌, length, map}
use Rattle.std.specs.List.{AllByRecursion}
use Rattle.page_bytes.specs.Known.{PageMap}
use Rattle.page_device.specs.Image.{Image, bytes_of}
use Rattle.redo_log.specs.declared.change.Change.{Change}
use Rattle.redo_log.specs.declared.store.Store.{Store}
use Rattle.redo_log.specs.Record.{number}
use Rattle.redo_log.specs.Names.{Names}
use Rattle.redo_log.specs.Store.{store_of, after, after_all, pages_after, whole_image}
use Rattle.redo_log.specs.Reading.{AreRecords}
use Rattle.slot_store.specs.declared.state.Log.{Log}
use Rattle.slot_store.specs.Slots.{IsInside}
use Rattle.slot_store.specs.Logs.{file_of, other_file}
use Rattle.slot_store.specs.Head.{Head, magic, head_bytes, IsRight, map_of}

-- the commit number, the catalogue, and the pages with their images
pub record Opened : Type 0 where
  pub commit : ℕ
  pub names : Names
  pub pages : PageMap

-- the first byte is not 1, or there is none: such a log is no candidate
abbrev pub IsShut : List ℕ → Type 0
IsShut bytes = (rest : List ℕ) → bytes ≡ 1 ∷ rest → ⊥

-- a log that is a candidate, of an earlier generation
pub record IsOlder (generation : ℕ) (bytes : List ℕ) : Type 0 where
  pub older : ℕ
  pub below : older < generation
  pub rest : List ℕ
  pub is : bytes ≡ 1 ∷ (magic ++ number older ++ rest)

-- the log doesn't count beside one of this generation
abbrev pub Yields : ℕ → List ℕ → Type 0
Yields generation bytes = IsShut bytes ⊎ IsOlder generation bytes

-- what the first record behind a head stands on
abbrev pub store_of_head : Head → Store
store_of_head h = store_of h.commit h.entries (map (λ r. r.id) h.rows)

-- what the records make of the pages, one after another
abbrev pub pages_after_all : List Change → Store → PageMap → PageMap
pages_after_all [] s pages = pages
pages_after_all (c ∷ cs) s pages = pages_after_all cs (after c s) (pages_after whole_image c s.names pages)

-- The three files open to this by the head of this log, which counts: its gate is 1, its slots lie inside the slot file, the
-- other log is no candidate or is older. The records behind it follow each other up to a gate that is not 1.
pub record OpensBy (log : Log) (head : Head) (o : Opened) (c : Image) : Type 0 where
  pub rest : List ℕ
  pub is : bytes_of c (file_of log) ≡ 1 ∷ (head_bytes head ++ rest)
  pub right : IsRight head
  pub inside : AllByRecursion (λ r. IsInside c.slots r.slot) head.rows
  pub other : Yields head.generation (bytes_of c (other_file log))
  pub changes : List Change
  pub end : List ℕ
  pub records : AreRecords (store_of_head head) changes rest end
  pub commit : o.commit ≡ (after_all changes (store_of_head head)).commit
  pub names : o.names ≡ (after_all changes (store_of_head head)).names
  pub pages : o.pages ≡ pages_after_all changes (store_of_head head) (map_of c.slots head.rows)

-- the three files open to this
abbrev pub Opens : Opened → Image → Type 0
Opens o c = (log : Log) × (head : Head) × OpensBy log head o c

-- they open to this by this head, no record stands behind it, and the other log has a first byte
pub record OpensFresh (log : Log) (head : Head) (o : Opened) (c : Image) : Type 0 where
  pub opens : OpensBy log head o c
  pub no_records : opens.changes ≡ []
  pub gate : 0 < length (bytes_of c (other_file log))
