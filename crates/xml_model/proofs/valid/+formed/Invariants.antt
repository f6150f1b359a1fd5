use Rattle.std.proofs.Common.{◌≡◌, false, drop, map}
use Rattle.xml_model.specs.Document.{are_formed, sibling}
use Rattle.xml_model.proofs.valid.+formed.Given as goal

abbrev pub invariant-are_formed-loop-node : goal.invariant-are_formed-loop-node
invariant-are_formed-loop-node l = are_formed l.after (map sibling (drop l.node-index l.node-items)) ≡ are_formed false (map sibling l.node-items)
