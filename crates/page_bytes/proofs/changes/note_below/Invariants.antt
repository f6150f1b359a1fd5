use Rattle.std.proofs.Common.{◌≡◌}
use Rattle.std.specs.FinMap as map
use Rattle.page_bytes.specs.Inside.{AreLong, IsListed}
use Rattle.page_bytes.proofs.changes.note_below.Given as goal

abbrev pub invariant-loop-id : goal.invariant-loop-id
invariant-loop-id l =
    (l.left.gone ≡ l.fn.left.gone) × (l.left.whole ≡ l.fn.left.whole) × AreLong l.changes
    × IsListed l.fn.left.below l.fn.left.drafts l.fn.left.gone l.fn.left.whole l.left.below l.left.drafts l.changes

abbrev pub decreases-loop-id : goal.decreases-loop-id
decreases-loop-id l = map.len l.left.below
