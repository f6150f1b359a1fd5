-- What three files open to, told by what is spelled in them: one of two logs counts, and it has a head that is taken and
-- records up to a closed gate.
use Rattle.std.specs.Prelude.{◌≡◌, ◌⊎◌, ℕ, ◌<◌, List, ◌∷◌, ◌++◌, length}
use Rattle.page_device.specs.declared.device.Which.{Which}
use Rattle.page_device.specs.declared.device.Which.TheVariants.{Slots, LogA, LogB}
use Rattle.page_device.specs.Image.{Image, bytes_of}
use Rattle.redo_log.specs.Record.{number}
use Rattle.redo_log.specs.Reading.{IsBytes, AreRecords}
use Rattle.redo_log.specs.HeadBytes.{head_bytes, IsHeadTaken}
use Rattle.redo_log.specs.HeadAndRecords.{Log, store_of_head}
use Rattle.redo_log.specs.Candidates.{magic}
use Rattle.redo_log.specs.Opened.{Opened, store_in}

-- what the files hold are bytes
abbrev pub HoldBytes : Image → Type 0
HoldBytes c = (file : Which) → IsBytes (bytes_of c file)

-- the first byte is not 1, or there is none: such a log is no candidate
abbrev pub IsShut : List ℕ → Type 0
IsShut bytes = (rest : List ℕ) → bytes ≡ 1 ∷ rest → ⊥

-- a log that is a candidate, of an earlier generation
pub record IsOlder (generation : ℕ) (bytes : List ℕ) : Type 0 where
  pub older : ℕ
  pub below : older < generation
  pub rest : List ℕ
  pub is : bytes ≡ 1 ∷ (magic ++ (number older ++ rest))

-- the log doesn't count beside one of this generation
abbrev pub Yields : ℕ → List ℕ → Type 0
Yields generation bytes = IsShut bytes ⊎ IsOlder generation bytes

-- the other log doesn't count beside this one, which has this generation; the file of the slots is no log
abbrev pub OtherYields : Image → Which → ℕ → Type 0
OtherYields c Slots generation = ⊥
OtherYields c LogA generation = Yields generation c.log_b
OtherYields c LogB generation = Yields generation c.log_a

-- The three files open to this by this file: it is a log whose gate is 1, its head is taken, the other log is no candidate or
-- is older, and the records behind the head follow each other up to a gate that is not 1.
pub record OpensBy (c : Image) (file : Which) (o : Opened) : Type 0 where
  pub log : Log
  pub spelled : bytes_of c file ≡ 1 ∷ (magic ++ (head_bytes log.head ++ log.behind))
  pub taken : IsHeadTaken (length c.slots) log.head
  pub other : OtherYields c file log.head.generation
  pub records : AreRecords (store_of_head log.head) log.changes log.behind log.end
  pub is : o ≡ store_in c.slots log

-- the three files open to this
abbrev pub Opens : Image → Opened → Type 0
Opens c o = (file : Which) × OpensBy c file o
