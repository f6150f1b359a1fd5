use Rattle.std.proofs.Common.{◌≡◌, ◌+◌, ◌∷◌, drop, ap, arith}
use Rattle.xml_model.specs.Trees.{count_node, count_of}
use Rattle.tree_edit.specs.Numbered.{look, numbered_nodes}
use Rattle.tree_edit.specs.Tidy.{with_nodes}
use Rattle.tree_edit.proofs.ByNumber.{turn}
use Rattle.tree_edit.proofs.Spots.{got, drop_some}
use Rattle.tree_edit.proofs.nodes.+edit.Goals as goal

pub edit_nodes-loop-node-preserved : goal.edit_nodes-loop-node-preserved
edit_nodes-loop-node-preserved t c =
    let xs = c.as_slice-node-items.result.now in
    let i = c.loop-node.node-index in
    let x = c.node-item.result in
    let is : drop i xs ≡ x ∷ drop (i + 1) xs = drop_some xs i x (got xs i x c.loop-node-test.true c.node-item.is) in
    let counted : count_of (drop i xs) ≡ count_node x + count_of (drop (i + 1) xs) = ap count_of is in
    record {
      made = turn (look c.args.edits.now) c.loop-node.out c.edit_node.new.out (with_nodes c.args.out.now (numbered_nodes (look c.args.edits.now) xs c.args.spot.now.number)) xs i x c.loop-node.spot.number c.edit_node.new.spot.number
          is c.in_ok-edit_node.ensures.made c.in_ok-edit_node.ensures.number c.loop-node.invariant.made;
      number = omega (arith, counted, c.in_ok-edit_node.ensures.number, c.loop-node.invariant.number);
      room = c.loop-node.invariant.room;
      at = c.in_ok-edit_node.ensures.at;
    }
