-- The attributes and the children among all that stands in a node, and what is below it by the nodes of its chain.
use Rattle.std.proofs.Common.{◌≡◌, ℕ, zero, suc, ◌+◌, Bool, true, false, cond, List, [], ◌∷◌, ◌++◌, map, drop, length, ◌≤◌, Option, Some, None, refl, sym, ap, ◌∙◌, append_assoc, append-nil, arith}
use Rattle.std.specs.List.{slice_get, filter, flat_map}
use Rattle.std.specs.Option.{option_map, option_map_or, option_and_then}
use Rattle.std.proofs.lemmas.List.{map-append}
use Rattle.std.proofs.lemmas.List.Concat.{flat_map-append}
use Rattle.std.proofs.lemmas.List.Elements.{filter-append}
use Rattle.xml_model.specs.declared.node.Attr.{Attr}
use Rattle.xml_model.specs.declared.node.Node.{Node}
use Rattle.xml_model.specs.declared.node.Node.TheVariants.{outs-Element, outs-Text, outs-Pi}
use Rattle.xml_model.specs.declared.place.PlaceStep.{PlaceStep}
use Rattle.xml_model.specs.declared.place.PlaceStep.TheVariants as steps
use Rattle.xml_model.specs.Axes.{one_step_each, into_each, ways_down, down_step, attribute_ways, child_ways, descendant_ways, attribute_places, child_places, descendant_places, held_places, held_nodes, nodes_at}
use Rattle.xml_model.specs.Forest.{Forest}
use Rattle.xml_model.specs.Nav.{standing, Stored, tree_of, stored_at, told_at, told_of, at_place}
use Rattle.xml_model.specs.Place.{Placed, a_node, an_attribute, attrs_of, kids_of, step_from}
use Rattle.xml_model.proofs.NodeCases.{node_has}
use Rattle.xml_model.proofs.Nodes.{fold-Element, fold-Text, fold-Pi}
use Rattle.xml_model.proofs.Numbered.{placed_more}
use Rattle.xq_nodes.proofs.Chain.{drop_none}
use Rattle.xq_nodes.specs.Walks.{is_attribute, is_of_attributes, is_child}

-- a node of a chain with all below it, or nothing for an attribute
abbrev pub with_below : Forest → Stored → List Stored
with_below F node = cond (is_attribute F node) [] (node ∷ nodes_at descendant_places F node)

-- ---- by the layer of a node

-- no node of a list of children is an attribute
child_kind : (n : Node) → is_of_attributes (told_of (a_node n)).kind ≡ false
child_kind n =
    node_has (λ n. is_of_attributes (told_of (a_node n)).kind ≡ false)
    (λ name attrs kids h. rw (outs-Element name attrs kids) refl) (λ value. rw (outs-Text value) refl) (λ target value. rw (outs-Pi target value) refl) n

-- the ways down from a node are none, and those into its children
pub ways_down_are : (n : Node) → ways_down n ≡ [] ∷ descendant_ways (a_node n)
ways_down_are n =
    node_has (λ n. ways_down n ≡ [] ∷ descendant_ways (a_node n))
    (λ name attrs kids h. rw (outs-Element name attrs kids) (fold-Element (List (List PlaceStep)) down_step name attrs kids))
    (λ value. rw (outs-Text value) (fold-Text (List (List PlaceStep)) down_step value))
    (λ target value. rw (outs-Pi target value) (fold-Pi (List (List PlaceStep)) down_step target value)) n

-- ---- lists

pub drop_first : {A : Type 0} (xs : List A) (i : ℕ) (x : A) (rest : List A) → drop i xs ≡ x ∷ rest → (slice_get xs i ≡ Some x) × (drop (i + 1) xs ≡ rest)
drop_first [] zero x rest e = cc
drop_first [] (suc i) x rest e = cc
drop_first (y ∷ xs) zero x rest e = (cc, cc)
drop_first (y ∷ xs) (suc i) x rest e =
    let h = drop_first xs i x rest e in
    let same : suc i + 1 ≡ suc (i + 1) = omega arith in
    (h.0, ap (λ n. drop n (y ∷ xs)) same ∙ h.1)

-- ---- a node and a place in its tree

module _ (F : Forest) (node : Stored) (root : Placed) (e : tree_of F node ≡ Some root) (p : List PlaceStep) (from : Placed) (h : standing root p ≡ Some from) where
  abbrev at_way : List PlaceStep → Stored
  at_way way = at_place node (p ++ way)

  -- what stands one step on
  stands_there : (s : PlaceStep) (w : Placed) → step_from from s ≡ Some w → stored_at F (at_way (s ∷ [])) ≡ Some w
  stands_there s w q = ap (option_and_then (λ root. standing root (p ++ s ∷ []))) e ∙ (placed_more p s (Some root) from h ∙ q)

  attrs_are : (i : ℕ) (left : List Attr) → drop i (attrs_of from) ≡ left
      → (filter (is_attribute F) (map (at_place node) (map (λ way. p ++ way) (one_step_each steps.Attr i left))) ≡ map (at_place node) (map (λ way. p ++ way) (one_step_each steps.Attr i left)))
      × (filter (is_child F) (map (at_place node) (map (λ way. p ++ way) (one_step_each steps.Attr i left))) ≡ [])
  attrs_are i [] d = (refl, refl)
  attrs_are i (a ∷ left) d =
      let one = drop_first (attrs_of from) i a left d in
      let is : is_attribute F (at_place node (p ++ steps.Attr i ∷ [])) ≡ true =
      ap (λ o. is_of_attributes (told_at o).kind) (stands_there (steps.Attr i) (an_attribute a) (ap (option_map an_attribute) one.0)) in
      let more = attrs_are (i + 1) left one.1 in
      (rw is (ap (λ rest. at_place node (p ++ steps.Attr i ∷ []) ∷ rest) more.0), rw is more.1)

  kids_are : (i : ℕ) (left : List Node) → drop i (kids_of from) ≡ left
      → (filter (is_attribute F) (map (at_place node) (map (λ way. p ++ way) (one_step_each steps.Kid i left))) ≡ [])
      × (filter (is_child F) (map (at_place node) (map (λ way. p ++ way) (one_step_each steps.Kid i left))) ≡ map (at_place node) (map (λ way. p ++ way) (one_step_each steps.Kid i left)))
  kids_are i [] d = (refl, refl)
  kids_are i (k ∷ left) d =
      let one = drop_first (kids_of from) i k left d in
      let is : is_attribute F (at_place node (p ++ steps.Kid i ∷ [])) ≡ false =
      ap (λ o. is_of_attributes (told_at o).kind) (stands_there (steps.Kid i) (a_node k) (ap (option_map a_node) one.0)) ∙ child_kind k in
      let more = kids_are (i + 1) left one.1 in
      (rw is more.0, rw is (ap (λ rest. at_place node (p ++ steps.Kid i ∷ []) ∷ rest) more.1))

  -- a way on behind a step
  ways_longer : (s : PlaceStep) (ways : List (List PlaceStep)) → map (λ way. p ++ way) (map (λ way. s ∷ way) ways) ≡ map (λ way. (p ++ s ∷ []) ++ way) ways
  ways_longer s [] = refl
  ways_longer s (w ∷ ways) = ap (λ x. x ∷ map (λ way. p ++ way) (map (λ way. s ∷ way) ways)) (sym (append_assoc p (s ∷ []) w)) ∙ ap (λ rest. ((p ++ s ∷ []) ++ w) ∷ rest) (ways_longer s ways)

  below_attrs : (i : ℕ) (left : List Attr) → drop i (attrs_of from) ≡ left
      → flat_map (with_below F) (map (at_place node) (map (λ way. p ++ way) (one_step_each steps.Attr i left))) ≡ []
  below_attrs i [] d = refl
  below_attrs i (a ∷ left) d =
      let one = drop_first (attrs_of from) i a left d in
      let is : is_attribute F (at_place node (p ++ steps.Attr i ∷ [])) ≡ true =
      ap (λ o. is_of_attributes (told_at o).kind) (stands_there (steps.Attr i) (an_attribute a) (ap (option_map an_attribute) one.0)) in
      rw is (below_attrs (i + 1) left one.1)

  below_one : (i : ℕ) (k : Node) → step_from from (steps.Kid i) ≡ Some (a_node k)
      → with_below F (at_place node (p ++ steps.Kid i ∷ [])) ≡ map (at_place node) (map (λ way. p ++ way) (map (λ way. steps.Kid i ∷ way) (ways_down k)))
  below_one i k q =
      let is : is_attribute F (at_place node (p ++ steps.Kid i ∷ [])) ≡ false =
      ap (λ o. is_of_attributes (told_at o).kind) (stands_there (steps.Kid i) (a_node k) q) ∙ child_kind k in
      let inside : nodes_at descendant_places F (at_place node (p ++ steps.Kid i ∷ [])) ≡ map (at_place node) (map (λ way. (p ++ steps.Kid i ∷ []) ++ way) (descendant_ways (a_node k))) =
      ap (λ o. option_map_or (λ root. map (at_place node) (descendant_places root (p ++ steps.Kid i ∷ []))) o []) e
      ∙ ap (λ o. map (at_place node) (option_map_or (λ from. map (λ way. (p ++ steps.Kid i ∷ []) ++ way) (descendant_ways from)) o [])) (placed_more p (steps.Kid i) (Some root) from h ∙ q) in
      ap (λ b. cond b [] (at_place node (p ++ steps.Kid i ∷ []) ∷ nodes_at descendant_places F (at_place node (p ++ steps.Kid i ∷ [])))) is
      ∙ (ap (λ rest. at_place node (p ++ steps.Kid i ∷ []) ∷ rest) (inside ∙ ap (map (at_place node)) (sym (ways_longer (steps.Kid i) (descendant_ways (a_node k)))))
      ∙ ap (λ ways. map (at_place node) (map (λ way. p ++ way) (map (λ way. steps.Kid i ∷ way) ways))) (sym (ways_down_are k)))

  below_kids : (i : ℕ) (left : List Node) → drop i (kids_of from) ≡ left
      → flat_map (with_below F) (map (at_place node) (map (λ way. p ++ way) (one_step_each steps.Kid i left))) ≡ map (at_place node) (map (λ way. p ++ way) (into_each i (map ways_down left)))
  below_kids i [] d = refl
  below_kids i (k ∷ left) d =
      let one = drop_first (kids_of from) i k left d in
      ap (λ first. first ++ flat_map (with_below F) (map (at_place node) (map (λ way. p ++ way) (one_step_each steps.Kid (i + 1) left)))) (below_one i k (ap (option_map a_node) one.0))
      ∙ (ap (λ rest. map (at_place node) (map (λ way. p ++ way) (map (λ way. steps.Kid i ∷ way) (ways_down k))) ++ rest) (below_kids (i + 1) left one.1)
      ∙ (sym (map-append (at_place node) (map (λ way. p ++ way) (map (λ way. steps.Kid i ∷ way) (ways_down k))) (map (λ way. p ++ way) (into_each (i + 1) (map ways_down left))))
      ∙ ap (map (at_place node)) (sym (map-append (λ way. p ++ way) (map (λ way. steps.Kid i ∷ way) (ways_down k)) (into_each (i + 1) (map ways_down left))))))

-- ---- stored nodes

module _ (F : Forest) (node : Stored) where
  nothing : held_nodes F node ≡ [] → nodes_at attribute_places F node ≡ [] → nodes_at child_places F node ≡ [] → nodes_at descendant_places F node ≡ []
      → (filter (is_attribute F) (held_nodes F node) ≡ nodes_at attribute_places F node) × (filter (is_child F) (held_nodes F node) ≡ nodes_at child_places F node)
      × (flat_map (with_below F) (held_nodes F node) ≡ nodes_at descendant_places F node)
  nothing a b c d = (ap (filter (is_attribute F)) a ∙ sym b, ap (filter (is_child F)) a ∙ sym c, ap (flat_map (with_below F)) a ∙ sym d)

  pub parts : (filter (is_attribute F) (held_nodes F node) ≡ nodes_at attribute_places F node) × (filter (is_child F) (held_nodes F node) ≡ nodes_at child_places F node)
      × (flat_map (with_below F) (held_nodes F node) ≡ nodes_at descendant_places F node)
  parts = in_tree (tree_of F node) refl
    where
      by : (places : Placed → List PlaceStep → List (List PlaceStep)) (o : Option Placed) → tree_of F node ≡ o → nodes_at places F node ≡ option_map_or (λ root. map (at_place node) (places root node.place)) o []
      by places o e = ap (λ o. option_map_or (λ root. map (at_place node) (places root node.place)) o []) e

      in_tree : (o : Option Placed) → tree_of F node ≡ o → (filter (is_attribute F) (held_nodes F node) ≡ nodes_at attribute_places F node) × (filter (is_child F) (held_nodes F node) ≡ nodes_at child_places F node)
          × (flat_map (with_below F) (held_nodes F node) ≡ nodes_at descendant_places F node)
      in_tree None e = nothing (by held_places None e) (by attribute_places None e) (by child_places None e) (by descendant_places None e)
      in_tree (Some root) e = at_node (standing root node.place) refl
        where
          led_by : (ways : Placed → List (List PlaceStep)) (o : Option Placed) → standing root node.place ≡ o
              → option_map_or (λ from. map (λ way. node.place ++ way) (ways from)) (standing root node.place) [] ≡ option_map_or (λ from. map (λ way. node.place ++ way) (ways from)) o []
          led_by ways o h = ap (λ o. option_map_or (λ from. map (λ way. node.place ++ way) (ways from)) o []) h

          at_node : (o : Option Placed) → standing root node.place ≡ o → (filter (is_attribute F) (held_nodes F node) ≡ nodes_at attribute_places F node) × (filter (is_child F) (held_nodes F node) ≡ nodes_at child_places F node)
              × (flat_map (with_below F) (held_nodes F node) ≡ nodes_at descendant_places F node)
          at_node None h =
              nothing (by held_places (Some root) e ∙ ap (map (at_place node)) (ap (λ a. a ++ child_places root node.place) (led_by attribute_ways None h) ∙ led_by child_ways None h))
              (by attribute_places (Some root) e ∙ ap (map (at_place node)) (led_by attribute_ways None h)) (by child_places (Some root) e ∙ ap (map (at_place node)) (led_by child_ways None h))
              (by descendant_places (Some root) e ∙ ap (map (at_place node)) (led_by descendant_ways None h))
          at_node (Some from) h =
              let attrs = map (at_place node) (map (λ way. node.place ++ way) (attribute_ways from)) in
              let kids = map (at_place node) (map (λ way. node.place ++ way) (child_ways from)) in
              let all : held_nodes F node ≡ attrs ++ kids =
              by held_places (Some root) e
              ∙ (ap (map (at_place node)) (ap (λ a. a ++ child_places root node.place) (led_by attribute_ways (Some from) h) ∙ ap (λ c. map (λ way. node.place ++ way) (attribute_ways from) ++ c) (led_by child_ways (Some from) h))
              ∙ map-append (at_place node) (map (λ way. node.place ++ way) (attribute_ways from)) (map (λ way. node.place ++ way) (child_ways from))) in
              let a = attrs_are F node root e node.place from h 0 (attrs_of from) refl in
              let k = kids_are F node root e node.place from h 0 (kids_of from) refl in (
                ap (filter (is_attribute F)) all ∙ (filter-append (is_attribute F) attrs kids ∙ (ap (λ x. x ++ filter (is_attribute F) kids) a.0 ∙ (ap (λ x. attrs ++ x) k.0 ∙ append-nil attrs)))
                    ∙ sym (by attribute_places (Some root) e ∙ ap (map (at_place node)) (led_by attribute_ways (Some from) h)),
                ap (filter (is_child F)) all ∙ (filter-append (is_child F) attrs kids ∙ (ap (λ x. x ++ filter (is_child F) kids) a.1 ∙ k.1))
                    ∙ sym (by child_places (Some root) e ∙ ap (map (at_place node)) (led_by child_ways (Some from) h)),
                ap (flat_map (with_below F)) all ∙ (flat_map-append (with_below F) attrs kids
                    ∙ (ap (λ x. x ++ flat_map (with_below F) kids) (below_attrs F node root e node.place from h 0 (attrs_of from) refl) ∙ below_kids F node root e node.place from h 0 (kids_of from) refl))
                    ∙ sym (by descendant_places (Some root) e ∙ ap (map (at_place node)) (led_by descendant_ways (Some from) h)),
              )

-- at the end of a list that was gone over, those that pass are those of the list
pub finish : {I : Type 0} (place : I → Stored) (test : Stored → Bool) (all items : List I) (i : ℕ) (nodes : List Stored) → length items ≤ i
    → map place all ++ filter test (map place (drop i items)) ≡ filter test (map place items) → map place items ≡ nodes → map place all ≡ filter test nodes
finish place test all items i nodes past h same =
    sym (append-nil (map place all)) ∙ (ap (λ rest. map place all ++ filter test (map place rest)) (sym (drop_none items i past)) ∙ (h ∙ ap (filter test) same))

-- one more node of a chain, with all below it, or none for an attribute
pub child_turn : {I : Type 0} (F : Forest) (place : I → Stored) (m : I) (old pushed new : List I) (b : Bool) → b ≡ is_attribute F (place m) → b ≡ false → pushed ≡ old ++ m ∷ []
    → map place new ≡ map place pushed ++ nodes_at descendant_places F (place m) → map place new ≡ map place old ++ with_below F (place m)
child_turn F place m old pushed new b e is p h =
    h
    ∙ (ap (λ xs. map place xs ++ nodes_at descendant_places F (place m)) p
    ∙ (ap (λ xs. xs ++ nodes_at descendant_places F (place m)) (map-append place old (m ∷ []))
    ∙ (append_assoc (map place old) (place m ∷ []) (nodes_at descendant_places F (place m))
    ∙ ap (λ b. map place old ++ cond b [] (place m ∷ nodes_at descendant_places F (place m))) (sym is ∙ e))))

pub attribute_turn : {I : Type 0} (F : Forest) (place : I → Stored) (m : I) (old : List I) (b : Bool) → b ≡ is_attribute F (place m) → b ≡ true
    → map place old ≡ map place old ++ with_below F (place m)
attribute_turn F place m old b e is =
    sym (append-nil (map place old)) ∙ ap (λ b. map place old ++ cond b [] (place m ∷ nodes_at descendant_places F (place m))) (sym is ∙ e)
