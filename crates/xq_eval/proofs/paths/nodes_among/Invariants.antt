use Rattle.std.proofs.Common.{◌≡◌, ◌++◌, drop}
use Rattle.xq_eval.specs.NodesAmong.{ids_among}
use Rattle.xq_eval.proofs.paths.nodes_among.Given as goal

abbrev pub invariant-loop-item : goal.invariant-loop-item
invariant-loop-item l = l.nodes ++ ids_among (drop l.item-index l.items) ≡ ids_among l.items
