-- What is left to test decides.
use Rattle.std.proofs.Common.{◌≡◌, drop}
use Rattle.redo_log.specs.Reading.{pages_housed}
use Rattle.redo_log.proofs.record.pages_housed.Given as goal

abbrev pub invariant-loop-page : goal.invariant-loop-page
invariant-loop-page l = pages_housed (drop l.page-index l.pages) l.left ≡ pages_housed l.pages l.initial.left
