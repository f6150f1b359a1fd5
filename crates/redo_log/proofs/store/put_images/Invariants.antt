-- The images that are left, put in after those so far.
use Rattle.std.proofs.Common.{◌≡◌, drop}
use Rattle.redo_log.specs.Store.{with_images, no_image}
use Rattle.redo_log.proofs.store.put_images.Given as goal

abbrev pub invariant-loop-change : goal.invariant-loop-change
invariant-loop-change l = with_images no_image (drop l.change-index l.pages) l.table ≡ with_images no_image l.pages l.initial.table
