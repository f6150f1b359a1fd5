use Rattle.std.proofs.Common.{◌≡◌, take}
use Rattle.xml_model.proofs.+copy.Given as goal

abbrev pub invariant-copy::copy_nodes-loop-node : goal.invariant-copy::copy_nodes-loop-node
invariant-copy::copy_nodes-loop-node l = l.all ≡ take l.node-index l.node-items
