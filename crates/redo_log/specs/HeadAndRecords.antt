-- A log as it is read: its head, and each record behind it whose gate is open.
use Rattle.std.specs.Prelude.{ℕ, zero, suc, List, [], ◌∷◌, length, Result, Ok, Err}
use Rattle.redo_log.specs.declared.change.Change.{Change}
use Rattle.redo_log.specs.declared.store.Store.{Store}
use Rattle.redo_log.specs.Store.{store_of, after}
use Rattle.redo_log.specs.Reading.{◌>>=◌, record_at}
use Rattle.redo_log.specs.Head.{Head, ids_of, head_at}

-- The records from a gate on, at most so many, and the bytes from the gate on that ends them: one that isn't 1. A gate that
-- the file is too short for is a field that runs past the end.
unfoldable pub records_at : ℕ → Store → List ℕ → Result (List Change × List ℕ) ℕ
records_at n s [] = Err 0
records_at (suc n) s (suc zero ∷ rest) = do
  first ← record_at s rest
  more ← records_at n (after first.0 s) first.1
  Ok (first.0 ∷ more.0, more.1)
records_at n s (gate ∷ rest) = Ok ([], gate ∷ rest)

-- what the first record behind a head stands on
abbrev pub store_of_head : Head → Store
store_of_head h = store_of h.commit h.entries (ids_of h.rows)

-- a log as it was read: its head, the records, and the bytes from their first gate and from their last gate on
pub record Log : Type 0 where
  pub head : Head
  pub changes : List Change
  pub behind : List ℕ
  pub end : List ℕ

-- A log, from its generation on, where the slot file has so many bytes. There are fewer records than bytes.
unfoldable pub log_at : ℕ → List ℕ → Result Log ℕ
log_at held bytes = do
  head ← head_at held bytes
  records ← records_at (length head.1) (store_of_head head.0) head.1
  Ok (record { head = head.0; changes = records.0; behind = head.1; end = records.1 })
