-- The children of nodes and of all below them are what stands below them.
use Rattle.std.proofs.Common.{◌≡◌, Bool, true, false, cond, List, [], ◌∷◌, ◌++◌, map, Option, Some, None, unwrap_or, refl, sym, ap, ◌∙◌, append-nil, append_assoc}
use Rattle.std.specs.List.{filter}
use Rattle.std.specs.Option.{option_map_or}
use Rattle.std.specs.Ordering.{ordering_then}
use Rattle.xq_ast.specs.declared.step.Axis.TheVariants as axis
use Rattle.xq_ast.specs.declared.step.Test.{Test}
use Rattle.xq_ast.specs.declared.step.Test.TheVariants as test
use Rattle.xml_model.specs.declared.place.PlaceStep.{PlaceStep}
use Rattle.xml_model.specs.Axes.{child_ways, descendant_ways, led}
use Rattle.xml_model.specs.DocumentOrder.{union}
use Rattle.xml_model.specs.Items.{Documents, Tree, NodeAt, Made, tree_root, node_at}
use Rattle.xml_model.specs.Nodes.{node_cmp, tree_cmp, passes_at, no_nodes, tested}
use Rattle.xml_model.specs.Place.{Placed, placed_from, place_cmp, step_cmp}
use Rattle.xq_nodes.specs.MadeSteps.{way_fits, kids_fitting, kids_at}
use Rattle.xq_nodes.proofs.MadeStepping.{child_fit, descendant_fit}
use Rattle.xq_nodes.proofs.NodeOrder.{step_total, tree_total, node_total}
use Rattle.xq_nodes.proofs.Places.{nowhere}
use Rattle.xq_nodes.proofs.Stepping.{filter_map, led_nowhere}
use Rattle.xq_nodes.proofs.StringValues.{placed_on}
use Rattle.xq_eval.proofs.UnionsOfMany.{union_of, union_of_same, union_of_map, union_of_union, union_map, same_itself}
use Rattle.xq_eval.proofs.SameNodes.{same_step, same_tree, same_node}
use Rattle.xq_eval.proofs.DeepWays.{map_two, all_ways, children_from, children_below}

abbrev Way : Type 0
Way = List PlaceStep

-- the union of the nodes of many
abbrev pub all_nodes : {N : Type 0} → (N → List NodeAt) → List N → List NodeAt
all_nodes = union_of node_cmp node_total same_node

filter_none : {A : Type 0} (p : A → Bool) → ((x : A) → p x ≡ true) → (xs : List A) → filter p xs ≡ xs
filter_none p h [] = refl
filter_none p h (x ∷ xs) = ap (λ b. cond b (x ∷ filter p xs) (filter p xs)) (h x) ∙ ap (λ l. x ∷ l) (filter_none p h xs)

passes_any : (o : Option Placed) → passes_at false test.AnyNode o ≡ true
passes_any None = refl
passes_any (Some there) = refl

-- ---- one tree, on from one place

-- the node at the end of a way
abbrev on : Tree → Way → Way → NodeAt
on tree place way = record { tree = tree; place = place ++ way }

behind_same : (p x y : Way) → place_cmp (p ++ x) (p ++ y) ≡ place_cmp x y
behind_same [] x y = refl
behind_same (s ∷ p) x y = ap (λ r. ordering_then r (place_cmp (p ++ x) (p ++ y))) (same_itself step_cmp step_total same_step s) ∙ behind_same p x y

on_same : (tree : Tree) (place x y : Way) → node_cmp (on tree place x) (on tree place y) ≡ place_cmp x y
on_same tree place x y =
    ap (λ r. ordering_then r (place_cmp (place ++ x) (place ++ y))) (same_itself tree_cmp tree_total same_tree tree) ∙ behind_same place x y

on_all : {N : Type 0} (tree : Tree) (place : Way) (go : N → List Way) (ns : List N)
    → map (on tree place) (all_ways go ns) ≡ all_nodes (λ n. map (on tree place) (go n)) ns
on_all tree place go [] = refl
on_all tree place go (n ∷ ns) =
    union_map place_cmp node_cmp (on tree place) (on_same tree place) (go n) (all_ways go ns)
    ∙ ap (union node_cmp (map (on tree place) (go n))) (on_all tree place go ns)

module _ (docs : Documents) (made : Made) where
  -- the nodes at the ends of ways from what stands there that pass a test
  module _ (p : Placed → Way → Bool) (q : Option Placed → Bool) (is : (from : Placed) (w : Way) → q (placed_from w (Some from)) ≡ p from w)
      (ways : Placed → List Way) (none : ways no_nodes ≡ []) where
    led_on : (tree : Tree) (place : Way) (o : Option Placed) → tree_root docs made tree ≡ o
        → filter (λ m. q (node_at docs made m)) (map (λ place. let n : NodeAt = record { tree = tree; place = place } in n) (led ways
        (unwrap_or o no_nodes) place))
        ≡ option_map_or (λ from. map (on tree place) (filter (p from) (ways from))) (placed_from place o) []
    led_on tree place None e =
        ap (λ l. filter (λ m. q (node_at docs made m)) (map (λ place. let n : NodeAt = record { tree = tree; place = place } in n) l))
        (led_nowhere ways none place)
        ∙ sym (ap (λ o. option_map_or (λ from. map (on tree place) (filter (p from) (ways from))) o []) (nowhere place))
    led_on tree place (Some root) e = go (placed_from place (Some root)) refl
      where
        go : (s : Option Placed) → placed_from place (Some root) ≡ s
            → filter (λ m. q (node_at docs made m)) (map (λ place. let n : NodeAt = record { tree = tree; place = place } in n) (option_map_or
            (λ from. map (λ way. place ++ way) (ways from)) s []))
            ≡ option_map_or (λ from. map (on tree place) (filter (p from) (ways from))) s []
        go None h = refl
        go (Some from) h =
            ap (filter (λ m. q (node_at docs made m))) (map_two (λ place. let n : NodeAt = record { tree = tree; place = place } in n)
            (λ way. place ++ way) (ways from))
            ∙ filter_map (on tree place) (λ m. q (node_at docs made m)) (p from)
            (λ w. ap q (ap (placed_from (place ++ w)) e ∙ (placed_on place w (Some root) ∙ ap (placed_from w) h)) ∙ is from w) (ways from)

  module _ (wanted : Test) where
    abbrev pub children : NodeAt → List NodeAt
    children = tested docs made axis.Child wanted

    abbrev pub descendants : NodeAt → List NodeAt
    descendants = tested docs made axis.Descendant wanted

    abbrev pub below : NodeAt → List NodeAt
    below = tested docs made axis.DescendantOrSelf test.AnyNode

    children_are : (n : NodeAt) → children n ≡ map (on n.tree n.place) (kids_fitting false wanted 0 (kids_at (node_at docs made n)))
    children_are n = led_on (way_fits false wanted) (passes_at false wanted) (λ from w. refl) child_ways refl n.tree n.place
        (tree_root docs made n.tree) refl ∙ go (node_at docs made n)
      where
        go : (s : Option Placed) → option_map_or (λ from. map (on n.tree n.place) (filter (way_fits false wanted from) (child_ways from))) s []
            ≡ map (on n.tree n.place) (kids_fitting false wanted 0 (kids_at s))
        go None = refl
        go (Some from) = ap (map (on n.tree n.place)) (child_fit wanted from)

    descendants_are : (n : NodeAt) → descendants n ≡ map (on n.tree n.place) (kids_fitting true wanted 0 (kids_at (node_at docs made n)))
    descendants_are n = led_on (way_fits false wanted) (passes_at false wanted) (λ from w. refl) descendant_ways refl n.tree n.place
        (tree_root docs made n.tree) refl ∙ go (node_at docs made n)
      where
        go : (s : Option Placed) → option_map_or (λ from. map (on n.tree n.place) (filter (way_fits false wanted from) (descendant_ways from))) s []
            ≡ map (on n.tree n.place) (kids_fitting true wanted 0 (kids_at s))
        go None = refl
        go (Some from) = ap (map (on n.tree n.place)) (descendant_fit wanted from)

    below_are : (n : NodeAt) → below n ≡ n ∷ option_map_or (λ from. map (on n.tree n.place) (descendant_ways from)) (node_at docs made n) []
    below_are n =
        ap (λ b. cond b (n ∷ rest) rest) (passes_any (node_at docs made n))
        ∙ ap (λ l. n ∷ l) (led_on (λ from w. true) (passes_at false test.AnyNode) (λ from w. passes_any (placed_from w
        (Some from))) descendant_ways refl n.tree n.place (tree_root docs made n.tree) refl ∙ go (node_at docs made n))
      where
        rest : List NodeAt
        rest = filter (λ m. passes_at false test.AnyNode (node_at docs made m))
            (map (λ place. let n : NodeAt = record { tree = n.tree; place = place } in n) (led descendant_ways (unwrap_or
            (tree_root docs made n.tree) no_nodes) n.place))

        go : (s : Option Placed) → option_map_or (λ from. map (on n.tree n.place) (filter (λ w. true) (descendant_ways from))) s []
            ≡ option_map_or (λ from. map (on n.tree n.place) (descendant_ways from)) s []
        go None = refl
        go (Some from) = ap (map (on n.tree n.place)) (filter_none (λ w. true) (λ w. refl) (descendant_ways from))

    -- the children of a node and of all below it, which pass, are all below it that pass
    pub children_below_one : (n : NodeAt) → all_nodes children (below n) ≡ descendants n
    children_below_one n = ap (all_nodes children) (below_are n) ∙ (go (node_at docs made n) refl ∙ sym (descendants_are n))
      where
        here : n ≡ on n.tree n.place []
        here = ap (λ p. let m : NodeAt = record { tree = n.tree; place = p } in m) (sym (append-nil n.place))

        go : (s : Option Placed) → node_at docs made n ≡ s
            → all_nodes children (n ∷ option_map_or (λ from. map (on n.tree n.place) (descendant_ways from)) s [])
            ≡ map (on n.tree n.place) (kids_fitting true wanted 0 (kids_at s))
        go None e = ap (λ l. union node_cmp l []) (children_are n ∙ ap (λ s. map (on n.tree n.place) (kids_fitting false wanted 0 (kids_at s))) e)
        go (Some from) e =
            ap (λ m. all_nodes children (m ∷ map (on n.tree n.place) (descendant_ways from))) here
            ∙ (union_of_map node_cmp node_total same_node children (on n.tree n.place) ([] ∷ descendant_ways from)
            ∙ (union_of_same node_cmp node_total same_node (λ w. children (on n.tree n.place w)) (λ w. map (on n.tree n.place) (children_from wanted from w))
            (λ w. children_are (on n.tree n.place w)
            ∙ (ap (λ s. map (on n.tree (n.place ++ w)) (kids_fitting false wanted 0 (kids_at s))) (placed_on n.place w (tree_root docs made n.tree)
            ∙ ap (placed_from w) e)
            ∙ behind w (kids_fitting false wanted 0 (kids_at (placed_from w (Some from)))))) ([] ∷ descendant_ways from)
            ∙ (sym (on_all n.tree n.place (children_from wanted from) ([] ∷ descendant_ways from))
            ∙ ap (map (on n.tree n.place)) (children_below wanted from))))
          where
            behind : (w : Way) (ways : List Way) → map (on n.tree (n.place ++ w)) ways ≡ map (on n.tree n.place) (map (λ v. w ++ v) ways)
            behind w [] = refl
            behind w (v ∷ ways) =
                ap (λ p. let m : NodeAt = record { tree = n.tree; place = p } in m ∷ map (on n.tree (n.place ++ w)) ways) (append_assoc n.place w v)
                ∙ ap (λ l. on n.tree n.place (w ++ v) ∷ l) (behind w ways)

    -- the same from many nodes
    pub children_below_all : (ns : List NodeAt) → all_nodes children (all_nodes below ns) ≡ all_nodes descendants ns
    children_below_all [] = refl
    children_below_all (n ∷ ns) =
        union_of_union node_cmp node_total same_node node_cmp node_total same_node children (below n) (all_nodes below ns)
        ∙ (ap (λ l. union node_cmp l (all_nodes children (all_nodes below ns))) (children_below_one n)
        ∙ ap (union node_cmp (descendants n)) (children_below_all ns))
