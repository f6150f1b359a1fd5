use Rattle.std.proofs.Common.{◌≡◌, ◌-◌, ◌≤◌, length, take}
use Rattle.std.specs.Io.KnownBytes.{append_known}
use Rattle.byte_edge.proofs.writing.write_all.Given as goal

-- the bytes so far were written, and no fault came
abbrev pub invariant-loop-at : goal.invariant-loop-at
invariant-loop-at g l = (l.at ≤ length l.bytes) × (g.W.Sink.written l.to ≡ append_known (g.W.Sink.written l.fn.to) (take l.at l.bytes))
    × (g.W.Sink.faults l.to ≡ g.W.Sink.faults l.fn.to)

-- how many bytes are left to write
abbrev pub decreases-loop-at : goal.decreases-loop-at
decreases-loop-at g l = length l.bytes - l.at
