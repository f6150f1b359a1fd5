-- What reading and writing all bytes do to a source and a sink.
use Rattle.std.specs.Prelude.{◌≡◌, ◌<◌, ◌≤◌, ◌↔◌, ◌+◌, ℕ, List, Option, Vec, Result, Ok, Err, length, take, IfOk, IsErrOf}
use Rattle.std.specs.declared.alloc.Global.{Global}
use Rattle.std.specs.Io.KnownBytes.{prepend_known, append_known}
use Rattle.byte_edge.specs.declared.reading.ReadEnd.{ReadEnd}
use Rattle.byte_edge.specs.declared.reading.ReadEnd.TheVariants.{ReadFault, TooLarge, NoMemory}
use Rattle.byte_edge.specs.Faults.{Rises}

-- the bytes that were taken from a source, what it has left, and the answer
pub record Took (limit : ℕ) (old new : Option (List ℕ)) (result : Result (Vec ℕ Global) ReadEnd) : Type 0 where
  pub bytes : List ℕ
  pub front : old ≡ prepend_known bytes new
  pub at_most : length bytes ≤ limit + 1
  pub too_large : IsErrOf result TooLarge ↔ (limit < length bytes)
  pub answer : IfOk result (λ v. v.items ≡ bytes)

-- A read fault comes exactly where the source failed: with any other answer its count of faults is as before.
abbrev pub HasReadCause : ℕ → ℕ → Result (Vec ℕ Global) ReadEnd → Type 0
HasReadCause before now (Ok v) = now ≡ before
HasReadCause before now (Err ReadFault) = Rises before now
HasReadCause before now (Err TooLarge) = now ≡ before
HasReadCause before now (Err NoMemory) = now ≡ before

-- a prefix of these bytes was appended to a sink
pub record AppendedPrefix (bytes : List ℕ) (old new : Option (List ℕ)) : Type 0 where
  pub count : ℕ
  pub within : count ≤ length bytes
  pub appended : new ≡ append_known old (take count bytes)
