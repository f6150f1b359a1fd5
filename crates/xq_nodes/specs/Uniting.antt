-- Two lists of nodes while they are being united.
use Rattle.std.specs.Prelude.{List, [], ◌∷◌, ◌++◌, map, ◌≡◌}
use Rattle.std.specs.declared.cmp.Ordering.{Ordering}
use Rattle.xml_model.specs.DocumentOrder.{union}
use Rattle.xml_model.specs.Items.{NodeAt}
use Rattle.xml_model.specs.Nodes.{node_cmp}
use Rattle.xq_values.specs.declared.item.NodeId.{NodeId}

module _ (seen : NodeId → NodeAt) where
  -- those that are done, and the union of what is left of both lists
  abbrev pub uniting : List NodeId → List NodeId → List NodeId → List NodeAt
  uniting all left right = map seen all ++ union node_cmp (map seen left) (map seen right)

  -- how the first nodes of two lists stand, where both have one
  abbrev pub IsOrderOfFirsts : Ordering → List NodeId → List NodeId → Type 0
  IsOrderOfFirsts order [] ys = Unit {0}
  IsOrderOfFirsts order (x ∷ xs) [] = Unit {0}
  IsOrderOfFirsts order (x ∷ xs) (y ∷ ys) = order ≡ node_cmp (seen x) (seen y)
