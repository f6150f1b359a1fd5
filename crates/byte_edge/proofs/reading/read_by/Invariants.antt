use Rattle.std.proofs.Common.{◌≡◌, ◌+◌, ◌-◌, ◌≤◌, vec_len}
use Rattle.std.specs.Io.KnownBytes.{prepend_known}
use Rattle.byte_edge.proofs.reading.read_by.Given as goal

-- the bytes so far are within the limit, they are what was taken, and no fault came
abbrev pub invariant-pieces : goal.invariant-pieces
invariant-pieces g l = (vec_len l.bytes ≤ l.limit) × (g.R.Source.rest l.fn.from ≡ prepend_known l.bytes.items (g.R.Source.rest l.from))
    × (g.R.Source.faults l.from ≡ g.R.Source.faults l.fn.from)

-- how many bytes may still be taken, the one past the limit with them
abbrev pub decreases-pieces : goal.decreases-pieces
decreases-pieces g l = l.limit + 1 - vec_len l.bytes
