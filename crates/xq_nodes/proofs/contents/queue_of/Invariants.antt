use Rattle.std.proofs.Common.{◌≡◌, ◌++◌, length}
use Rattle.xq_nodes.proofs.contents.queue_of.Given as goal

abbrev pub invariant-loop-node : goal.invariant-loop-node
invariant-loop-node l = l.left ++ l.queue.items ≡ l.initial.left ++ l.initial.queue.items

abbrev pub decreases-loop-node : goal.decreases-loop-node
decreases-loop-node l = length l.left
