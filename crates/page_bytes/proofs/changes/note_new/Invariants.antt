use Rattle.std.proofs.Common.{◌≡◌}
use Rattle.std.specs.FinMap as map
use Rattle.page_bytes.specs.Inside.{AreLong, KeepsListed}
use Rattle.page_bytes.proofs.changes.note_new.Given as goal

abbrev pub invariant-loop-id : goal.invariant-loop-id
invariant-loop-id l = (l.left.below ≡ l.fn.left.below) × AreLong l.changes × KeepsListed l.fn.left.drafts l.fn.changes l.left.drafts l.changes

abbrev pub decreases-loop-id : goal.decreases-loop-id
decreases-loop-id l = map.len l.left.drafts
