use Rattle.std.proofs.Common.{◌≡◌, ◌++◌, map, length}
use Rattle.std.specs.Vec.Iter.{into_iter_items, into_iter_len}
use Rattle.xq_values.specs.declared.item.Item.TheVariants as item
use Rattle.xq_functions.proofs.lists.node_items.Given as goal

-- the items so far are the nodes that were taken, and these with those that are left are all
abbrev pub invariant-loop-id : goal.invariant-loop-id
invariant-loop-id l = record {
  made : l.items ≡ map (λ id. item.Node id) l.yielded;
  all : l.yielded ++ into_iter_items l.id-iterator ≡ l.fn.nodes;
  left : into_iter_len l.id-iterator ≡ length (into_iter_items l.id-iterator);
}
