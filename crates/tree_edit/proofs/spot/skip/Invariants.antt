use Rattle.std.proofs.Common.{◌-◌, length}
use Rattle.tree_edit.proofs.Spots.{IsOnTheWay}
use Rattle.tree_edit.proofs.spot.skip.Given as goal

abbrev pub invariant-loop-edit : goal.invariant-loop-edit
invariant-loop-edit l = IsOnTheWay l.edits l.fn.spot.number l.spot.number l.next

abbrev pub decreases-loop-edit : goal.decreases-loop-edit
decreases-loop-edit l = length l.edits - l.next
