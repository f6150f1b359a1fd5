use Rattle.std.proofs.Common.{ℕ, List, Option}
use Rattle.page_bytes.specs.declared.ids.PageId.{PageId}
use Rattle.page_bytes.specs.Own.{KeepsToOwn}
use Rattle.text_pages.specs.Keeping.{texts_own}
use Rattle.text_pages.proofs.TakeWalks.{HasTaken}
use Rattle.text_pages.proofs.Weights.{weight}
use Rattle.text_pages.proofs.taking.remove_text.Given as goal

abbrev pub decreases-loop-at : goal.decreases-loop-at
decreases-loop-at l = weight l.work.now.pages

abbrev pub invariant-loop-at : goal.invariant-loop-at
invariant-loop-at l = record {
  taken : HasTaken l.initial.work l.fn.space l.fn.first l.at l.from l.work;
  own : (all : PageId → Option (List ℕ)) → KeepsToOwn texts_own 0 l.initial.work l.work all l.fn.space;
}
