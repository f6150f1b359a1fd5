use Rattle.std.specs.Io.KnownBytes.{Keeps}
use Rattle.byte_edge.proofs.std_edge.read_some.Given as goal

-- a read that a signal interrupts takes nothing
abbrev pub invariant-tries : goal.invariant-tries
invariant-tries g l = Keeps (g.R.Read.remaining l.fn.reader) (g.R.Read.remaining l.reader)
