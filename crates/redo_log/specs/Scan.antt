-- What a scan answers, by the contents of the file.
use Rattle.std.specs.Prelude.{◌≡◌, ℕ, ◌+◌, ◌-◌, List, ◌++◌, length, drop}
use Rattle.std.specs.List.{flat_map}
use Rattle.page_device.specs.declared.device.Which.{Which}
use Rattle.page_device.specs.Image.{Image, bytes_of}
use Rattle.redo_log.specs.declared.change.Change.{Change}
use Rattle.redo_log.specs.declared.scanning.LogBase.{LogBase}
use Rattle.redo_log.specs.declared.scanning.Scanned.{Scanned}
use Rattle.redo_log.specs.declared.fault.ReadEnd.{ReadEnd}
use Rattle.redo_log.specs.declared.fault.ReadEnd.TheVariants.{Wrong, NoMemory}
use Rattle.redo_log.specs.declared.store.Store.{Store}
use Rattle.redo_log.specs.Record.{record_of}
use Rattle.redo_log.specs.Store.{store_of}
use Rattle.redo_log.specs.Reading.{AreRecords, IsRefused}
use Rattle.redo_log.specs.Taken.{AreTaken}

-- what the first record stands on
abbrev pub store_before : LogBase → Store
store_before base = store_of base.commit base.entries base.pages

-- The records of the file from a place on, and the closed gate behind them. Each byte between is theirs, and they are commits that follow each other.
pub record Scans (file : Which) (at : ℕ) (base : LogBase) (c : Image) (s : Scanned) : Type 0 where
  pub file_is : s.end.file ≡ file
  pub records : AreRecords (store_before base) s.changes (drop at (bytes_of c file)) (drop s.end.at (bytes_of c file))
  pub spelled : drop at (bytes_of c file) ≡ flat_map record_of s.changes ++ drop s.end.at (bytes_of c file)
  pub taken : AreTaken (store_before base) s.changes

-- the first wrong field after the records that are right
pub record IsNoStore (file : Which) (at : ℕ) (base : LogBase) (c : Image) (wrong : ℕ) : Type 0 where
  pub changes : List Change
  pub left : ℕ
  pub refused : IsRefused (store_before base) changes (drop at (bytes_of c file)) left
  pub place : wrong ≡ at + (length (drop at (bytes_of c file)) - left)

-- a fault of reading, unless it is want of memory
abbrev pub Refuses : Store → List ℕ → ReadEnd → Type 0
Refuses s bytes (Wrong left) = (cs : List Change) × IsRefused s cs bytes left
Refuses s bytes NoMemory = Unit {0}
