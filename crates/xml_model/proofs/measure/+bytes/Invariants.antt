use Rattle.std.proofs.Common.{◌≡◌, ◌<◌, min, ◌+◌, ◌-◌, ◌^◌, drop}
use Rattle.xml_model.specs.Trees.{bytes_of}
use Rattle.xml_model.proofs.measure.+bytes.Given as goal

abbrev pub invariant-bytes_in-loop-node : goal.invariant-bytes_in-loop-node
invariant-bytes_in-loop-node l =
    (l.all < 2 ^ 64) × (min (l.all + bytes_of (drop l.node-index l.node-items)) (2 ^ 64 - 1) ≡ min (bytes_of l.node-items) (2 ^ 64 - 1))
