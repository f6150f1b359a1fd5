-- How bytes go to a sink through a buffer.
use Rattle.std.specs.Prelude.{◌≡◌, ◌≤◌, ℕ, List, ◌++◌, Option, Result, Ok, Err}
use Rattle.std.specs.Io.KnownBytes.{append_known}
use Rattle.byte_edge.specs.Faults.{Rose}

-- the bytes written to the sink, its faults, and the bytes that wait in the buffer
pub record Stage : Type 0 where
  pub written : Option (List ℕ)
  pub faults : ℕ
  pub waiting : List ℕ

-- the sink and the buffer at a moment, by their parts
abbrev pub stage : Option (List ℕ) → ℕ → List ℕ → Stage
stage written faults waiting = record { written = written; faults = faults; waiting = waiting }

-- the bytes went after those that waited: the first of both were written, and the others wait
pub record Sent (bytes : List ℕ) (old new : Stage) : Type 0 where
  pub put : List ℕ
  pub written : new.written ≡ append_known old.written put
  pub waiting : old.waiting ++ bytes ≡ put ++ new.waiting
  pub kept : new.faults ≡ old.faults

-- the sink failed: the first of both were written, and the others are lost
pub record Broke (bytes : List ℕ) (old new : Stage) : Type 0 where
  pub put : List ℕ
  pub lost : List ℕ
  pub written : new.written ≡ append_known old.written put
  pub waiting : old.waiting ++ bytes ≡ put ++ lost
  pub later : old.faults ≤ new.faults
  pub rose : Rose old.faults new.faults

-- the bytes were sent where the answer is good, and the sink failed where it is a fault
abbrev pub Sends : {T E : Type 0} → Result T E → List ℕ → (old new : Stage) → Type 0
Sends (Ok x) bytes old new = Sent bytes old new
Sends (Err e) bytes old new = Broke bytes old new
