use Rattle.std.proofs.Common.{◌≡◌, ◌+◌, ◌<◌, ◌^◌, drop}
use Rattle.xml_model.specs.Trees.{count_of}
use Rattle.tree_edit.specs.Numbered.{look, IsAt, numbered_nodes}
use Rattle.tree_edit.specs.Tidy as spec
use Rattle.tree_edit.proofs.nodes.+edit.Given as goal

abbrev pub invariant-edit_nodes-loop-node : goal.invariant-edit_nodes-loop-node
invariant-edit_nodes-loop-node l = record {
  made : spec.with_nodes l.out (numbered_nodes (look l.edits) (drop l.node-index l.node-items) l.spot.number)
      ≡ spec.with_nodes l.initial.out (numbered_nodes (look l.edits) l.node-items l.initial.spot.number);
  number : l.spot.number + count_of (drop l.node-index l.node-items) ≡ l.initial.spot.number + count_of l.node-items;
  room : l.initial.spot.number + count_of l.node-items < 2 ^ 32;
  at : IsAt l.edits l.spot.number l.spot.next;
}
