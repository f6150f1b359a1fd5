use Rattle.std.proofs.Common.{◌≡◌, ◌++◌, map, drop}
use Rattle.xq_values.specs.declared.item.Item.TheVariants.{Node}
use Rattle.xq_eval.proofs.paths.entries.Given as goal

abbrev pub invariant-loop-id : goal.invariant-loop-id
invariant-loop-id l = l.items ++ map Node (drop l.id-index l.nodes) ≡ map Node l.nodes
