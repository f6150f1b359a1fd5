-- Copies of what stands in a node are its attributes and its children.
use Rattle.std.proofs.Common.{◌≡◌, ℕ, ◌+◌, List, [], ◌∷◌, ◌++◌, map, drop, Option, Some, None, IfSome, unwrap_or, refl, sym, ap, subst, ◌∙◌, append_assoc, append-nil}
use Rattle.std.specs.Option.{option_map, option_map_or, option_and_then}
use Rattle.std.proofs.lemmas.List.{map-append}
use Rattle.std.proofs.lemmas.Option.{none-some}
use Rattle.xml_model.specs.declared.node.Attr.{Attr}
use Rattle.xml_model.specs.declared.node.Node.{Node}
use Rattle.xml_model.specs.declared.place.PlaceStep.{PlaceStep}
use Rattle.xml_model.specs.declared.place.PlaceStep.TheVariants as steps
use Rattle.xml_model.specs.Axes.{one_step_each, attribute_ways, child_ways, held_places, held_nodes}
use Rattle.xml_model.specs.Forest.{Forest}
use Rattle.xml_model.specs.Nav.{standing, Stored, tree_of, stored_at, at_place, first_of_node, next_of_node}
use Rattle.xml_model.specs.Place.{Placed, the_document, a_node, an_attribute, attrs_of, kids_of, step_from}
use Rattle.xml_model.proofs.Numbered.{placed_more}
use Rattle.xq_nodes.specs.declared.copies.Copied.{Copied}
use Rattle.xq_nodes.specs.declared.copies.Copied.TheVariants as copied
use Rattle.xq_nodes.specs.declared.copies.Inside.{Inside}
use Rattle.xml_model.specs.Nodes.{no_nodes}
use Rattle.xq_nodes.specs.Copies.{copied_as, standing_at, with_copied}
use Rattle.xq_nodes.proofs.Chain.{seen_nodes, held_seen, later_seen}
use Rattle.xq_nodes.proofs.Parts.{drop_first}

-- the attributes, and the nodes, among what stands at places
abbrev pub attrs_among : List (Option Placed) → List Attr
attrs_among [] = []
attrs_among (None ∷ more) = attrs_among more
attrs_among (Some (the_document doc) ∷ more) = attrs_among more
attrs_among (Some (a_node n) ∷ more) = attrs_among more
attrs_among (Some (an_attribute a) ∷ more) = a ∷ attrs_among more

abbrev pub kids_among : List (Option Placed) → List Node
kids_among [] = []
kids_among (None ∷ more) = kids_among more
kids_among (Some (the_document doc) ∷ more) = kids_among more
kids_among (Some (a_node n) ∷ more) = n ∷ kids_among more
kids_among (Some (an_attribute a) ∷ more) = kids_among more

among_attrs : (attrs : List Attr) (more : List (Option Placed))
    → (attrs_among (map (λ a. Some (an_attribute a)) attrs ++ more) ≡ attrs ++ attrs_among more) × (kids_among (map (λ a. Some (an_attribute a)) attrs ++ more) ≡ kids_among more)
among_attrs [] more = (refl, refl)
among_attrs (a ∷ attrs) more = let h = among_attrs attrs more in (ap (λ l. a ∷ l) h.0, h.1)

among_kids : (kids : List Node) → (attrs_among (map (λ n. Some (a_node n)) kids) ≡ []) × (kids_among (map (λ n. Some (a_node n)) kids) ≡ kids)
among_kids [] = (refl, refl)
among_kids (k ∷ kids) = let h = among_kids kids in (h.0, ap (λ l. k ∷ l) h.1)

module _ (F : Forest) (node : Stored) (root : Placed) (e : tree_of F node ≡ Some root) (from : Placed) (h : standing root node.place ≡ Some from) where
  one_on : (s : PlaceStep) (w : Placed) → step_from from s ≡ Some w → stored_at F (at_place node (node.place ++ s ∷ [])) ≡ Some w
  one_on s w q = ap (option_and_then (λ root. standing root (node.place ++ s ∷ []))) e ∙ (placed_more node.place s (Some root) from h ∙ q)

  attrs_stand : (i : ℕ) (left : List Attr) → drop i (attrs_of from) ≡ left
      → map (stored_at F) (map (at_place node) (map (λ way. node.place ++ way) (one_step_each steps.Attr i left))) ≡ map (λ a. Some (an_attribute a)) left
  attrs_stand i [] d = refl
  attrs_stand i (a ∷ left) d =
      let one = drop_first (attrs_of from) i a left d in
      ap (λ o. o ∷ map (stored_at F) (map (at_place node) (map (λ way. node.place ++ way) (one_step_each steps.Attr (i + 1) left)))) (one_on (steps.Attr i) (an_attribute a) (ap (option_map an_attribute) one.0))
      ∙ ap (λ rest. Some (an_attribute a) ∷ rest) (attrs_stand (i + 1) left one.1)

  kids_stand : (i : ℕ) (left : List Node) → drop i (kids_of from) ≡ left
      → map (stored_at F) (map (at_place node) (map (λ way. node.place ++ way) (one_step_each steps.Kid i left))) ≡ map (λ n. Some (a_node n)) left
  kids_stand i [] d = refl
  kids_stand i (k ∷ left) d =
      let one = drop_first (kids_of from) i k left d in
      ap (λ o. o ∷ map (stored_at F) (map (at_place node) (map (λ way. node.place ++ way) (one_step_each steps.Kid (i + 1) left)))) (one_on (steps.Kid i) (a_node k) (ap (option_map a_node) one.0))
      ∙ ap (λ rest. Some (a_node k) ∷ rest) (kids_stand (i + 1) left one.1)

  held_stand : map (stored_at F) (held_nodes F node) ≡ map (λ a. Some (an_attribute a)) (attrs_of from) ++ map (λ n. Some (a_node n)) (kids_of from)
  held_stand =
      ap (map (stored_at F)) (ap (λ o. option_map_or (λ root. map (at_place node) (held_places root node.place)) o []) e
      ∙ ap (λ o. map (at_place node) (option_map_or (λ from. map (λ way. node.place ++ way) (attribute_ways from)) o [] ++ option_map_or (λ from. map (λ way. node.place ++ way) (child_ways from)) o [])) h
      ∙ map-append (at_place node) (map (λ way. node.place ++ way) (attribute_ways from)) (map (λ way. node.place ++ way) (child_ways from)))
      ∙ (map-append (stored_at F) (map (at_place node) (map (λ way. node.place ++ way) (attribute_ways from))) (map (at_place node) (map (λ way. node.place ++ way) (child_ways from)))
      ∙ (ap (λ x. x ++ map (stored_at F) (map (at_place node) (map (λ way. node.place ++ way) (child_ways from)))) (attrs_stand 0 (attrs_of from) refl)
      ∙ ap (λ x. map (λ a. Some (an_attribute a)) (attrs_of from) ++ x) (kids_stand 0 (kids_of from) refl)))

-- what stands in a node are its attributes and its children
pub inside_is : (F : Forest) (node : Stored) (it : Placed) → stored_at F node ≡ Some it
    → (attrs_among (map (stored_at F) (held_nodes F node)) ≡ attrs_of it) × (kids_among (map (stored_at F) (held_nodes F node)) ≡ kids_of it)
inside_is F node it s = in_tree (tree_of F node) refl s
  where
    in_tree : (o : Option Placed) → tree_of F node ≡ o → option_and_then (λ root. standing root node.place) o ≡ Some it
        → (attrs_among (map (stored_at F) (held_nodes F node)) ≡ attrs_of it) × (kids_among (map (stored_at F) (held_nodes F node)) ≡ kids_of it)
    in_tree None e q = absurd (none-some it q)
    in_tree (Some root) e q =
        let all = held_stand F node root e it q in
        let a = among_attrs (attrs_of it) (map (λ n. Some (a_node n)) (kids_of it)) in
        let k = among_kids (kids_of it) in
        (ap attrs_among all ∙ (a.0 ∙ (ap (λ l. attrs_of it ++ l) k.0 ∙ append-nil (attrs_of it))), ap kids_among all ∙ (a.1 ∙ k.1))

-- ---- a walk that copies

abbrev AllStand : List (Option Placed) → Type 0
AllStand [] = Unit {0}
AllStand (None ∷ more) = ⊥
AllStand (Some it ∷ more) = AllStand more

attrs_all : (attrs : List Attr) (more : List (Option Placed)) → AllStand more → AllStand (map (λ a. Some (an_attribute a)) attrs ++ more)
attrs_all [] more h = h
attrs_all (a ∷ attrs) more h = attrs_all attrs more h

kids_all : (kids : List Node) → AllStand (map (λ n. Some (a_node n)) kids)
kids_all [] = tt
kids_all (k ∷ kids) = kids_all kids

all_stand : (F : Forest) (node : Stored) (it : Placed) → stored_at F node ≡ Some it → AllStand (map (stored_at F) (held_nodes F node))
all_stand F node it s = in_tree (tree_of F node) refl s
  where
    in_tree : (o : Option Placed) → tree_of F node ≡ o → option_and_then (λ root. standing root node.place) o ≡ Some it → AllStand (map (stored_at F) (held_nodes F node))
    in_tree None e q = absurd (none-some it q)
    in_tree (Some root) e q = subst AllStand (sym (held_stand F node root e it q)) (attrs_all (attrs_of it) (map (λ n. Some (a_node n)) (kids_of it)) (kids_all (kids_of it)))

-- what is inside so far, and what is left of the chain, are what stands in the node
pub record Copying (attrs : List Attr) (kids : List Node) (it : Placed) (left : List (Option Placed)) : Type 0 where
  pub attrs_are : attrs ++ attrs_among left ≡ attrs_of it
  pub kids_are : kids ++ kids_among left ≡ kids_of it
  pub all : AllStand left

abbrev pub CopyingFrom : Inside → Option Placed → List (Option Placed) → Type 0
CopyingFrom inside None left = (inside.attrs ≡ []) × (inside.kids ≡ []) × (left ≡ [])
CopyingFrom inside (Some it) left = Copying inside.attrs inside.kids it left

-- in what does not stand anywhere nothing stands
held_none : (F : Forest) (node : Stored) → stored_at F node ≡ None → held_nodes F node ≡ []
held_none F node s = in_tree (tree_of F node) refl s
  where
    in_tree : (o : Option Placed) → tree_of F node ≡ o → option_and_then (λ root. standing root node.place) o ≡ None → held_nodes F node ≡ []
    in_tree None e q = ap (λ o. option_map_or (λ root. map (at_place node) (held_places root node.place)) o []) e
    in_tree (Some root) e q =
        ap (λ o. option_map_or (λ root. map (at_place node) (held_places root node.place)) o []) e
        ∙ ap (λ o. map (at_place node) (option_map_or (λ from. map (λ way. node.place ++ way) (attribute_ways from)) o [] ++ option_map_or (λ from. map (λ way. node.place ++ way) (child_ways from)) o [])) q

not_empty : {A : Type 0} (x : A) (xs : List A) → x ∷ xs ≡ [] → ⊥
not_empty x xs e = cc

pub begun : (F : Forest) (node : Stored) (inside : Inside) (o : Option Stored) → inside.attrs ≡ [] → inside.kids ≡ [] → o ≡ first_of_node F node
    → CopyingFrom inside (stored_at F node) (map (stored_at F) (seen_nodes F o))
begun F node inside o a k e = go (stored_at F node) refl
  where
    go : (s : Option Placed) → stored_at F node ≡ s → CopyingFrom inside s (map (stored_at F) (seen_nodes F o))
    go None q = (a, k, ap (map (stored_at F)) (ap (seen_nodes F) e ∙ (sym (held_seen F node) ∙ held_none F node q)))
    go (Some it) q =
        let chain = ap (seen_nodes F) e ∙ sym (held_seen F node) in
        let all = ap (map (stored_at F)) chain in
        record {
          attrs_are = ap (λ l. l ++ attrs_among (map (stored_at F) (seen_nodes F o))) a ∙ (ap attrs_among all ∙ (inside_is F node it q).0);
          kids_are = ap (λ l. l ++ kids_among (map (stored_at F) (seen_nodes F o))) k ∙ (ap kids_among all ∙ (inside_is F node it q).1);
          all = subst AllStand (sym all) (all_stand F node it q);
        }

one_copied : (it : Placed) (inside : Inside) (c : Copied) (first : Option Placed) (rest : List (Option Placed)) → IfSome first (λ it. it ≡ copied_as c)
    → Copying inside.attrs inside.kids it (first ∷ rest) → Copying (with_copied inside c).attrs (with_copied inside c).kids it rest
one_copied it inside c None rest is h = absurd h.all
one_copied it inside (copied.Document kids) (Some x) rest is h =
    let k = subst (λ x. Copying inside.attrs inside.kids it (Some x ∷ rest)) is h in
    record { attrs_are = k.attrs_are; kids_are = k.kids_are; all = k.all }
one_copied it inside (copied.Node n) (Some x) rest is h =
    let k = subst (λ x. Copying inside.attrs inside.kids it (Some x ∷ rest)) is h in
    record { attrs_are = k.attrs_are; kids_are = append_assoc inside.kids (n ∷ []) (kids_among rest) ∙ k.kids_are; all = k.all }
one_copied it inside (copied.Attribute a) (Some x) rest is h =
    let k = subst (λ x. Copying inside.attrs inside.kids it (Some x ∷ rest)) is h in
    record { attrs_are = append_assoc inside.attrs (a ∷ []) (attrs_among rest) ∙ k.attrs_are; kids_are = k.kids_are; all = k.all }

if_stands : (c : Copied) (o : Option Placed) → copied_as c ≡ unwrap_or o no_nodes → IfSome o (λ it. it ≡ copied_as c)
if_stands c None e = tt
if_stands c (Some it) e = sym e

module _ {I : Type 0} (F : Forest) (place : I → Stored) (m : I) (o next : Option I) (e : o ≡ Some m) (gives : option_map place next ≡ next_of_node F (place m)) where
  chain_on : map (stored_at F) (seen_nodes F (option_map place o)) ≡ stored_at F (place m) ∷ map (stored_at F) (seen_nodes F (option_map place next))
  chain_on =
      ap (λ o. map (stored_at F) (seen_nodes F (option_map place o))) e
      ∙ ap (λ rest. stored_at F (place m) ∷ map (stored_at F) rest) (later_seen F (place m) ∙ ap (seen_nodes F) (sym gives))

  pub copied_on : (s : Option Placed) (inside more : Inside) (c : Copied) → more ≡ with_copied inside c → copied_as c ≡ standing_at F (place m)
      → CopyingFrom inside s (map (stored_at F) (seen_nodes F (option_map place o))) → CopyingFrom more s (map (stored_at F) (seen_nodes F (option_map place next)))
  copied_on None inside more c q is h = absurd (not_empty (stored_at F (place m)) (map (stored_at F) (seen_nodes F (option_map place next))) (sym chain_on ∙ h.2))
  copied_on (Some it) inside more c q is h =
      subst (λ more. Copying more.attrs more.kids it (map (stored_at F) (seen_nodes F (option_map place next)))) (sym q)
      (one_copied it inside c (stored_at F (place m)) (map (stored_at F) (seen_nodes F (option_map place next))) (if_stands c (stored_at F (place m)) is)
      (subst (Copying inside.attrs inside.kids it) chain_on h))

-- at the end of the chain all is copied
pub copied_whole : {I : Type 0} (F : Forest) (place : I → Stored) (o : Option I) (s : Option Placed) (inside : Inside) → o ≡ None
    → CopyingFrom inside s (map (stored_at F) (seen_nodes F (option_map place o))) → (inside.attrs ≡ attrs_of (unwrap_or s no_nodes)) × (inside.kids ≡ kids_of (unwrap_or s no_nodes))
copied_whole F place o None inside e h = (h.0, h.1)
copied_whole F place o (Some it) inside e h =
    let k = subst (λ o. Copying inside.attrs inside.kids it (map (stored_at F) (seen_nodes F (option_map place o)))) e h in
    (sym (append-nil inside.attrs) ∙ k.attrs_are, sym (append-nil inside.kids) ∙ k.kids_are)
