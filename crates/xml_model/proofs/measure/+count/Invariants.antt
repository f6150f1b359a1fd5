use Rattle.std.proofs.Common.{◌≡◌, ◌<◌, min, ◌+◌, ◌-◌, ◌^◌, drop}
use Rattle.xml_model.specs.Trees.{count_of}
use Rattle.xml_model.proofs.measure.+count.Given as goal

abbrev pub invariant-count_nodes-loop-node : goal.invariant-count_nodes-loop-node
invariant-count_nodes-loop-node l =
    (l.all < 2 ^ 64) × (min (l.all + count_of (drop l.node-index l.node-items)) (2 ^ 64 - 1) ≡ min (count_of l.node-items) (2 ^ 64 - 1))
