use Rattle.std.proofs.Common.{◌≡◌, ◌<◌, take}
use Rattle.pyx_text.specs.Ways.{hash_of}
use Rattle.pyx_text.proofs.places.hash.Given as goal

abbrev pub invariant-loop-byte : goal.invariant-loop-byte
invariant-loop-byte l = record { so_far : l.hash ≡ hash_of (take l.byte-index l.name); small : l.hash < 4294967291 }
