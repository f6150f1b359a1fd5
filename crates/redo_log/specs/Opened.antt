-- What three files open to: the commit, the generation, the catalogue and the pages of the log that counts, by its head
-- and by the records behind it; or the first field that is wrong.
use Rattle.std.specs.Prelude.{ℕ, ◌-◌, ◌*◌, List, [], ◌∷◌, length, take, drop, Result, Ok, Err}
use Rattle.std.specs.FinMap as finite
use Rattle.page_bytes.specs.declared.page.TheConstants.{PAGE_BYTES}
use Rattle.page_bytes.specs.Known.{PageMap}
use Rattle.page_device.specs.declared.device.Which.{Which}
use Rattle.page_device.specs.Image.{Image, bytes_of}
use Rattle.redo_log.specs.declared.change.Change.{Change}
use Rattle.redo_log.specs.declared.store.Store.{Store}
use Rattle.redo_log.specs.Names.{Names}
use Rattle.redo_log.specs.Store.{after, after_all, pages_after, whole_image}
use Rattle.redo_log.specs.Head.{Row}
use Rattle.redo_log.specs.HeadAndRecords.{Log, store_of_head, log_at}
use Rattle.redo_log.specs.Candidates.{◌>>=◌, NotAStore, no_store, counting}

-- a wrong field of a file is named by its place: so many bytes stand from it on
abbrev pub placed : {A : Type 0} → Which → ℕ → Result A ℕ → Result A NotAStore
placed file long (Ok x) = Ok x
placed file long (Err left) = no_store file (long - left)

-- the bytes of a slot
abbrev pub slot_in : List ℕ → ℕ → List ℕ
slot_in slots slot = take PAGE_BYTES (drop (slot * PAGE_BYTES) slots)

-- the pages with those of these rows, each with the bytes of its slot
abbrev pub with_rows : List ℕ → List Row → PageMap → PageMap
with_rows slots [] pages = pages
with_rows slots (r ∷ rs) pages = with_rows slots rs (finite.insert pages r.id (slot_in slots r.slot))

-- what the records make of the pages, one after another
abbrev pub pages_after_all : List Change → Store → PageMap → PageMap
pages_after_all [] s pages = pages
pages_after_all (c ∷ cs) s pages = pages_after_all cs (after c s) (pages_after whole_image c s.names pages)

-- what three files open to: the newest commit, the generation, how many bytes the records of the log that counts have, the
-- catalogue, and the pages with their bytes
pub record Opened : Type 0 where
  pub commit : ℕ
  pub generation : ℕ
  pub record_bytes : ℕ
  pub names : Names
  pub pages : PageMap

-- the store of a log, where the slot file has these bytes
abbrev pub store_in : List ℕ → Log → Opened
store_in slots log = record {
  commit = (after_all log.changes (store_of_head log.head)).commit;
  generation = log.head.generation;
  record_bytes = length log.behind - length log.end;
  names = (after_all log.changes (store_of_head log.head)).names;
  pages = pages_after_all log.changes (store_of_head log.head) (with_rows slots log.head.rows finite.empty);
}

-- What three files open to, or the first field that is wrong: which log counts is known first, and then it is read. Its
-- generation stands behind its gate and its 8 bytes.
unfoldable pub opened : Image → Result Opened NotAStore
opened c = do
  file ← counting c
  log ← placed file (length (bytes_of c file)) (log_at (length c.slots) (drop 9 (bytes_of c file)))
  Ok (store_in c.slots log)
