use Rattle.std.proofs.Common.{◌≡◌, length}
use Rattle.flat_doc.proofs.LineByLine.{IsFrontRead}
use Rattle.flat_doc.proofs.lines.Lines.read.Given as goal

abbrev pub invariant-loop-cut : goal.invariant-loop-cut
invariant-loop-cut l = record {
  space : l.self.space ≡ l.fn.self.space;
  so_far : IsFrontRead l.bytes l.rest l.fn.self.reader l.self.reader l.fn.self.line.items l.self.line.items;
}

-- how many bytes are left
abbrev pub decreases-loop-cut : goal.decreases-loop-cut
decreases-loop-cut l = length l.rest
