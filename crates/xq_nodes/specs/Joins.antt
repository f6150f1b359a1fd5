-- Lists of nodes that are being joined in document order.
use Rattle.std.specs.Prelude.{List, [], ◌∷◌, map, length, ◌-◌, slice_get, Some, true, ◌≡◌}
use Rattle.std.specs.declared.cmp.Ordering.{Ordering}
use Rattle.std.specs.declared.cmp.Ordering.TheVariants.{Less}
use Rattle.xml_model.specs.DocumentOrder.{union}
use Rattle.xml_model.specs.Items.{NodeAt}
use Rattle.xml_model.specs.Nodes.{node_cmp}
use Rattle.xq_values.specs.declared.item.NodeId.{NodeId}
use Rattle.xq_nodes.specs.declared.joining.Joining.{Joining}
use Rattle.xq_nodes.specs.declared.joining.Run.{Run}

module _ {A : Type 0} (cmp : A → A → Ordering) where
  -- this one is before each of those
  abbrev pub IsBefore : A → List A → Type 0
  IsBefore x [] = Unit {0}
  IsBefore x (y ∷ ys) = (cmp x y ≡ Less) × IsBefore x ys

  -- each is before all that follow it
  abbrev pub Rises : List A → Type 0
  Rises [] = Unit {0}
  Rises (x ∷ xs) = IsBefore x xs × Rises xs

-- one list after another joined to the nodes so far
abbrev pub join_all : List NodeAt → List (List NodeAt) → List NodeAt
join_all joined [] = joined
join_all joined (ns ∷ more) = join_all (union node_cmp joined ns) more

abbrev pub nodes_of : (NodeId → NodeAt) → Run → List NodeAt
nodes_of seen run = map seen run.nodes

-- all runs, joined
abbrev pub join_runs : (NodeId → NodeAt) → List Run → List NodeAt
join_runs seen runs = join_all [] (map (nodes_of seen) runs)

-- all that was pushed, joined
abbrev pub joined_seen : (NodeId → NodeAt) → Joining → List NodeAt
joined_seen seen joining = join_runs seen joining.runs.items

-- a run that is marked so is in document order
abbrev pub IsMarked : (NodeId → NodeAt) → Run → Type 0
IsMarked seen run = run.rises ≡ true → Rises node_cmp (nodes_of seen run)

abbrev pub AreMarked : (NodeId → NodeAt) → List Run → Type 0
AreMarked seen [] = Unit {0}
AreMarked seen (run ∷ runs) = IsMarked seen run × AreMarked seen runs

-- what a joining knows of the order of its lists is right
abbrev pub IsRight : (NodeId → NodeAt) → Joining → Type 0
IsRight seen joining = AreMarked seen joining.runs.items

-- the last node of a list is before the first of another one
pub record EndsBefore (seen : NodeId → NodeAt) (xs ys : List NodeId) : Type 0 where
  pub last : NodeId
  pub first : NodeId
  pub is_last : slice_get xs (length xs - 1) ≡ Some last
  pub is_first : slice_get ys 0 ≡ Some first
  pub less : node_cmp (seen last) (seen first) ≡ Less
