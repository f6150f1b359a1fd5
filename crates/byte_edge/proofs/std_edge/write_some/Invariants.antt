use Rattle.std.specs.Io.KnownBytes.{Keeps}
use Rattle.byte_edge.proofs.std_edge.write_some.Given as goal

-- a write that a signal interrupts appends nothing
abbrev pub invariant-tries : goal.invariant-tries
invariant-tries g l = Keeps (g.W.Write.contents l.fn.writer) (g.W.Write.contents l.writer)
