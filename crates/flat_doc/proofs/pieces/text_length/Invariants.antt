use Rattle.flat_doc.specs.Pieces.{page_count}
use Rattle.flat_doc.proofs.Looking.{IsLeft}
use Rattle.flat_doc.proofs.pieces.text_length.Given as goal

abbrev pub invariant-loop-left : goal.invariant-loop-left
invariant-loop-left g l = IsLeft (g.P.Pages.known l.pages) l.space (page_count l.length) l.number l.left

abbrev pub decreases-loop-left : goal.decreases-loop-left
decreases-loop-left g l = l.left
