use Rattle.std.proofs.Common.{◌≡◌, ◌<◌, min, max, ◌-◌, ◌^◌, drop}
use Rattle.xml_model.specs.Trees.{depth_of}
use Rattle.xml_model.proofs.measure.+depth.Given as goal

abbrev pub invariant-depth_in-loop-node : goal.invariant-depth_in-loop-node
invariant-depth_in-loop-node l =
    (l.most < 2 ^ 32) × (min (max l.most (depth_of (drop l.node-index l.node-items))) (2 ^ 32 - 1) ≡ min (depth_of l.node-items) (2 ^ 32 - 1))
