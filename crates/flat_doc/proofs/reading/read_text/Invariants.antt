use Rattle.std.proofs.Common.{◌≡◌}
use Rattle.flat_doc.proofs.UpTo.{IsUpTo}
use Rattle.flat_doc.proofs.reading.read_text.Given as goal

abbrev pub invariant-loop-left : goal.invariant-loop-left
invariant-loop-left g l = record {
  space : l.lines.space ≡ l.space;
  up_to : IsUpTo (g.P.Pages.known l.pages) l.space l.number l.at l.left l.lines.reader l.lines.line.items;
}

abbrev pub decreases-loop-left : goal.decreases-loop-left
decreases-loop-left g l = l.left
