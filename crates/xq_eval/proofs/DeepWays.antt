-- The children of a node and of all below it are what stands below it, in one tree, by ways from the node.
use Rattle.std.proofs.Common.{◌≡◌, ℕ, ◌+◌, ◌≤◌, Bool, true, false, cond, List, [], ◌∷◌, ◌++◌, map, drop, Some, refl, sym, ap, ◌∙◌, append-nil, arith}
use Rattle.std.specs.Cmp.{nat_cmp_is}
use Rattle.std.specs.Ordering.{ordering_then}
use Rattle.std.specs.List.{slice_get}
use Rattle.std.specs.Option.{option_map}
use Rattle.std.specs.declared.cmp.Ordering.TheVariants.{Less, Equal}
use Rattle.xq_ast.specs.declared.step.Test.{Test}
use Rattle.xml_model.specs.declared.node.Node.{Node}
use Rattle.xml_model.specs.declared.node.Node.TheVariants.{Element, Text, Pi, outs-Element, outs-Text, outs-Pi}
use Rattle.xml_model.specs.declared.place.PlaceStep.{PlaceStep}
use Rattle.xml_model.specs.declared.place.PlaceStep.TheVariants as steps
use Rattle.xml_model.specs.Axes.{into_each, ways_down, descendant_ways}
use Rattle.xml_model.specs.DocumentOrder.{union}
use Rattle.xml_model.specs.Nodes.{passes}
use Rattle.xml_model.specs.Place.{Placed, a_node, kids_of, placed_from, place_cmp}
use Rattle.xml_model.proofs.NodeCases.{Each, node_has, nodes_have}
use Rattle.xq_nodes.specs.MadeSteps.{ways_fitting, kids_fitting, kids_at}
use Rattle.xq_nodes.proofs.MadeStepping.{whole_fits}
use Rattle.xq_nodes.proofs.NodeOrder.{place_total}
use Rattle.xq_nodes.proofs.Parts.{drop_first, ways_down_are}
use Rattle.xq_nodes.proofs.Unions.{union-nil, union_behind, IsBehind}
use Rattle.xq_eval.proofs.UnionsOfMany.{union_of, union_of_same, union_of_append, union_of_map, union_crossed, union_map}
use Rattle.xq_eval.proofs.SameNodes.{same_place}

-- a way
abbrev Way : Type 0
Way = List PlaceStep

-- the union of the ways of many
abbrev pub all_ways : {N : Type 0} → (N → List Way) → List N → List Way
all_ways = union_of place_cmp place_total same_place

abbrev joined : List Way → List Way → List Way
joined = union place_cmp

-- ---- lists

-- one map after another
pub map_two : {A B C : Type 0} (f : B → C) (g : A → B) (xs : List A) → map f (map g xs) ≡ map (λ x. f (g x)) xs
map_two f g [] = refl
map_two f g (x ∷ xs) = ap (λ l. f (g x) ∷ l) (map_two f g xs)

map_none : {A : Type 0} (xs : List A) → map (λ x. x) xs ≡ xs
map_none [] = refl
map_none (x ∷ xs) = ap (λ l. x ∷ l) (map_none xs)

-- ---- ways into children

abbrev into : ℕ → Way → Way
into i way = steps.Kid i ∷ way

same_step : (i : ℕ) (p q : Way) → place_cmp (into i p) (into i q) ≡ place_cmp p q
same_step i p q = ap (λ r. ordering_then r (place_cmp p q)) (sym (nat_cmp_is i i Equal refl))

-- the way leads into a child of this number or a later one
abbrev IsFrom : ℕ → Way → Type 0
IsFrom i [] = ⊥
IsFrom i (steps.Attr j ∷ way) = ⊥
IsFrom i (steps.Kid j ∷ way) = i ≤ j

abbrev AreFrom : ℕ → List Way → Type 0
AreFrom i [] = Unit {0}
AreFrom i (w ∷ ways) = IsFrom i w × AreFrom i ways

from_later : (i : ℕ) (w : Way) → IsFrom (i + 1) w → IsFrom i w
from_later i [] h = elim h [ ]
from_later i (steps.Attr j ∷ way) h = elim h [ ]
from_later i (steps.Kid j ∷ way) h = omega arith

are_later : (i : ℕ) (ways : List Way) → AreFrom (i + 1) ways → AreFrom i ways
are_later i [] h = tt
are_later i (w ∷ ways) h = (from_later i w h.0, are_later i ways h.1)

are_both : (i : ℕ) (xs ys : List Way) → AreFrom i xs → AreFrom i ys → AreFrom i (xs ++ ys)
are_both i [] ys a b = b
are_both i (x ∷ xs) ys a b = (a.0, are_both i xs ys a.1 b)

are_into : (i : ℕ) (ways : List Way) → AreFrom i (map (into i) ways)
are_into i [] = tt
are_into i (w ∷ ways) = (omega arith, are_into i ways)

fitting_from : (deep : Bool) (wanted : Test) (i : ℕ) (kids : List Node) → AreFrom i (kids_fitting deep wanted i kids)
fitting_from deep wanted i [] = tt
fitting_from deep wanted i (k ∷ kids) =
    are_both i (map (into i) (ways_fitting deep wanted k)) (kids_fitting deep wanted (i + 1) kids)
    (are_into i (ways_fitting deep wanted k)) (are_later i (kids_fitting deep wanted (i + 1) kids) (fitting_from deep wanted (i + 1) kids))

before : (i : ℕ) (p w : Way) → IsFrom (i + 1) w → place_cmp (into i p) w ≡ Less
before i p [] h = elim h [ ]
before i p (steps.Attr j ∷ way) h = elim h [ ]
before i p (steps.Kid j ∷ way) h = ap (λ r. ordering_then r (place_cmp p way)) (sym (nat_cmp_is i j Less (omega arith)))

all_before : (i : ℕ) (ways : List Way) (w : Way) → IsFrom (i + 1) w → IsBehind place_cmp (map (into i) ways) w
all_before i [] w h = tt
all_before i (p ∷ ways) w h = (before i p w h, all_before i ways w h)

-- ways into a child come before those into later ones
apart : (i : ℕ) (xs ys : List Way) → AreFrom (i + 1) ys → joined (map (into i) xs) ys ≡ map (into i) xs ++ ys
apart i xs [] h = union-nil place_cmp (map (into i) xs) ∙ sym (append-nil (map (into i) xs))
apart i xs (y ∷ ys) h = union_behind place_cmp (map (into i) xs) ys y (all_before i xs y h.0)

-- no step comes before some
own_first : (i : ℕ) (ways : List Way) → AreFrom i ways → joined ([] ∷ []) ways ≡ [] ∷ ways
own_first i [] h = refl
own_first i ([] ∷ ways) h = elim h.0 [ ]
own_first i ((s ∷ w) ∷ ways) h = refl

-- ---- the children of all below

module _ (wanted : Test) where
  -- the children at the end of a way that pass
  abbrev pub children_from : Placed → Way → List Way
  children_from from way = map (λ w. way ++ w) (kids_fitting false wanted 0 (kids_at (placed_from way (Some from))))

  abbrev Whole : Placed → Type 0
  Whole from = all_ways (children_from from) ([] ∷ descendant_ways from) ≡ kids_fitting true wanted 0 (kids_of from)

  abbrev Has : Node → Type 0
  Has n = Whole (a_node n)

  -- what passes of a node, and then of all below it
  own : (k : Node) → joined (ways_fitting false wanted k) (kids_fitting true wanted 0 (kids_of (a_node k))) ≡ ways_fitting true wanted k
  own k = go (passes false wanted (a_node k)) ∙ sym (whole_fits wanted k)
    where
      go : (b : Bool) → joined (cond b ([] ∷ []) []) (kids_fitting true wanted 0 (kids_of (a_node k)))
          ≡ cond b ([] ∷ kids_fitting true wanted 0 (kids_of (a_node k))) (kids_fitting true wanted 0 (kids_of (a_node k)))
      go true = own_first 0 (kids_fitting true wanted 0 (kids_of (a_node k))) (fitting_from true wanted 0 (kids_of (a_node k)))
      go false = refl

  -- one step into a child and on from there
  children_in : (from : Placed) (i : ℕ) (k : Node) → option_map a_node (slice_get (kids_of from) i) ≡ Some (a_node k)
      → (w : Way) → children_from from (into i w) ≡ map (into i) (children_from (a_node k) w)
  children_in from i k e w =
      ap (λ o. map (λ v. into i w ++ v) (kids_fitting false wanted 0 (kids_at (placed_from w o)))) e
      ∙ sym (map_two (into i) (λ v. w ++ v) (kids_fitting false wanted 0 (kids_at (placed_from w (Some (a_node k))))))

  into_all : {N : Type 0} (i : ℕ) (go : N → List Way) (ns : List N) → map (into i) (all_ways go ns) ≡ all_ways (λ n. map (into i) (go n)) ns
  into_all i go [] = refl
  into_all i go (n ∷ ns) =
      union_map place_cmp place_cmp (into i) (same_step i) (go n) (all_ways go ns) ∙ ap (joined (map (into i) (go n))) (into_all i go ns)

  -- below one child
  below_one : (from : Placed) (i : ℕ) (k : Node) → option_map a_node (slice_get (kids_of from) i) ≡ Some (a_node k) → Has k
      → all_ways (children_from from) (map (into i) (ways_down k)) ≡ map (into i) (kids_fitting true wanted 0 (kids_of (a_node k)))
  below_one from i k e h =
      union_of_map place_cmp place_total same_place (children_from from) (into i) (ways_down k)
      ∙ (union_of_same place_cmp place_total same_place (λ w. children_from from (into i w)) (λ w. map (into i) (children_from (a_node k) w))
      (children_in from i k e) (ways_down k)
      ∙ (sym (into_all i (children_from (a_node k)) (ways_down k))
      ∙ ap (map (into i)) (ap (all_ways (children_from (a_node k))) (ways_down_are k) ∙ h)))

  below_kids : (from : Placed) (i : ℕ) (left : List Node) → drop i (kids_of from) ≡ left → Each Has left
      → joined (kids_fitting false wanted i left) (all_ways (children_from from) (into_each i (map ways_down left))) ≡ kids_fitting true wanted i left
  below_kids from i [] d h = refl
  below_kids from i (k ∷ left) d h =
      let one = drop_first (kids_of from) i k left d in
      let here : List Way = map (into i) (ways_fitting false wanted k) in
      let inside : List Way = map (into i) (kids_fitting true wanted 0 (kids_of (a_node k))) in
      let later : List Way = kids_fitting false wanted (i + 1) left in
      let deeper : List Way = all_ways (children_from from) (into_each (i + 1) (map ways_down left)) in
      let found : List Way = kids_fitting true wanted (i + 1) left in
      ap (λ l. joined l (all_ways (children_from from) (into_each i (map ways_down (k ∷ left))))) (sym (apart i (ways_fitting false wanted k) later
      (fitting_from false wanted (i + 1) left)))
      ∙ (ap (joined (joined here later)) (union_of_append place_cmp place_total same_place (children_from from) (map (into i) (ways_down k)) (into_each
      (i + 1) (map ways_down left))
      ∙ ap (λ l. joined l deeper) (below_one from i k (ap (option_map a_node) one.0) h.0))
      ∙ (union_crossed place_cmp place_total same_place here later inside deeper
      ∙ (ap (joined (joined here inside)) (below_kids from (i + 1) left one.1 h.1)
      ∙ (ap (λ l. joined l found) (sym (union_map place_cmp place_cmp (into i) (same_step i) (ways_fitting false wanted k) (kids_fitting true wanted 0
      (kids_of (a_node k)))) ∙ ap (map (into i)) (own k))
      ∙ apart i (ways_fitting true wanted k) found (fitting_from true wanted (i + 1) left)))))

  whole : (from : Placed) → Each Has (kids_of from) → Whole from
  whole from h =
      ap (λ l. joined l (all_ways (children_from from) (descendant_ways from))) (map_none (kids_fitting false wanted 0 (kids_of from)))
      ∙ below_kids from 0 (kids_of from) refl h

  has : (n : Node) → Has n
  has = node_has Has
      (λ name attrs kids h. whole (a_node (Element name attrs kids)) (rw (outs-Element name attrs kids) h))
      (λ value. whole (a_node (Text value)) (rw (outs-Text value) tt))
      (λ target value. whole (a_node (Pi target value)) (rw (outs-Pi target value) tt))

  -- the children of a node and of all below it, which pass, are all below it that pass
  pub children_below : (from : Placed) → Whole from
  children_below from = whole from (nodes_have Has
      (λ name attrs kids h. whole (a_node (Element name attrs kids)) (rw (outs-Element name attrs kids) h))
      (λ value. whole (a_node (Text value)) (rw (outs-Text value) tt))
      (λ target value. whole (a_node (Pi target value)) (rw (outs-Pi target value) tt)) (kids_of from))
