use Rattle.std.proofs.Common.{◌≡◌, take}
use Rattle.std.specs.List.{filter_map}
use Rattle.xq_edits.specs.Targets.{stored_id}
use Rattle.xq_edits.proofs.targets.stored_ids.Given as goal

abbrev pub invariant-loop-node : goal.invariant-loop-node
invariant-loop-node l = l.ids ≡ filter_map stored_id (take l.node-index l.nodes)
