use Rattle.std.proofs.Common.{◌≡◌, drop}
use Rattle.tree_edit.specs.Tidy as spec
use Rattle.tree_edit.proofs.copies.push_copies.Given as goal

abbrev pub invariant-loop-node : goal.invariant-loop-node
invariant-loop-node l = spec.with_nodes l.out (drop l.node-index l.node-items) ≡ spec.with_nodes l.initial.out l.node-items
