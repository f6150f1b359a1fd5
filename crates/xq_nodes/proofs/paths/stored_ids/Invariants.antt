use Rattle.std.proofs.Common.{◌≡◌, ◌++◌, map, drop}
use Rattle.xq_values.specs.declared.item.NodeId.TheVariants as ids
use Rattle.xq_nodes.proofs.paths.stored_ids.Given as goal

abbrev pub invariant-loop-id : goal.invariant-loop-id
invariant-loop-id l = l.all ++ map (λ n. ids.Stored n) (drop l.id-index l.id-items) ≡ l.initial.all ++ map (λ n. ids.Stored n) l.id-items
