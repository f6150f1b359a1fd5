use Rattle.std.proofs.Common.{◌≡◌, map}
use Rattle.std.specs.VecDeque.{deque_len}
use Rattle.xml_model.specs.Constructors.{a_child}
use Rattle.xq_values.specs.Contents.{with_pieces}
use Rattle.xq_nodes.proofs.contents.with_nodes.Given as goal

abbrev pub invariant-loop-node : goal.invariant-loop-node
invariant-loop-node l = with_pieces l.all (map a_child l.left.items) ≡ with_pieces l.initial.all (map a_child l.initial.left.items)

abbrev pub decreases-loop-node : goal.decreases-loop-node
decreases-loop-node l = deque_len l.left
