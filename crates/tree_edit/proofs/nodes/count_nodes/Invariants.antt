use Rattle.std.proofs.Common.{◌≡◌, ◌+◌, ◌<◌, ◌^◌, drop}
use Rattle.xml_model.specs.Trees.{count_of}
use Rattle.tree_edit.proofs.nodes.count_nodes.Given as goal

abbrev pub invariant-loop-node : goal.invariant-loop-node
invariant-loop-node l = (l.all + count_of (drop l.node-index l.node-items) ≡ count_of l.node-items) × (count_of l.node-items < 2 ^ 32)
