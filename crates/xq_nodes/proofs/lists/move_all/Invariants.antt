use Rattle.std.proofs.Common.{◌≡◌, ◌++◌}
use Rattle.std.specs.VecDeque.{deque_len}
use Rattle.xq_nodes.proofs.lists.move_all.Given as goal

abbrev pub invariant-loop-node : goal.invariant-loop-node
invariant-loop-node l = l.all ++ l.from.items ≡ l.initial.all ++ l.initial.from.items

abbrev pub decreases-loop-node : goal.decreases-loop-node
decreases-loop-node l = deque_len l.from
