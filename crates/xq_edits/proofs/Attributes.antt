-- The attributes of an element as nodes: in document order, after the element, with their names.
use Rattle.std.proofs.Common.{◌≡◌, ℕ, ◌+◌, ◌<◌, List, [], ◌∷◌, ◌++◌, map, drop, Option, Some, None, refl, sym, ap, ◌∙◌, subst, arith}
use Rattle.std.specs.Prelude.{unwrap_or}
use Rattle.std.specs.FinMap as forests
use Rattle.std.specs.Cmp.{nat_cmp_is}
use Rattle.std.specs.List.{flat_map}
use Rattle.std.specs.Option.{option_map, option_map_or, option_and_then}
use Rattle.std.specs.Ordering.{ordering_then}
use Rattle.std.specs.declared.cmp.Ordering.TheVariants.{Less}
use Rattle.std.proofs.lemmas.Cmp.{nat_list_cmp_total, tied_itself}
use Rattle.std.proofs.lemmas.List.{map-append}
use Rattle.xml_model.specs.declared.node.Attr.{Attr}
use Rattle.xml_model.specs.declared.place.PlaceStep.{PlaceStep}
use Rattle.xml_model.specs.declared.place.PlaceStep.TheVariants as steps
use Rattle.xml_model.specs.Axes.{one_step_each, attribute_ways, attribute_places, nodes_at}
use Rattle.xml_model.specs.DocumentOrder.{node_cmp}
use Rattle.xml_model.specs.Edits as edits
use Rattle.xml_model.specs.Forest.{Forest}
use Rattle.xml_model.specs.Nav.{Stored, standing, tree_of, told_at, at_place}
use Rattle.xml_model.specs.Nodes.{no_nodes}
use Rattle.xml_model.specs.Place.{Placed, an_attribute, attrs_of, step_from, step_cmp, place_cmp}
use Rattle.xml_model.specs.Rebuild.{edited_attribute, edited_attributes}
use Rattle.xml_model.proofs.Numbered.{placed_more}
use Rattle.xq_nodes.specs.Joins.{IsBefore, Rises}
use Rattle.xq_nodes.proofs.NodeOrder.{step_total}
use Rattle.xq_nodes.proofs.Parts.{drop_first}
use Rattle.xq_edits.specs.Names.{names_of, names_edited, name_at}
use Rattle.xq_edits.proofs.ByKind.{standing_is}
use Rattle.xq_edits.proofs.NamesAlong.{done_to, one_edited}

-- ---- order

longer_after : (p : List PlaceStep) (s : PlaceStep) → place_cmp p (p ++ s ∷ []) ≡ Less
longer_after [] s = refl
longer_after (t ∷ p) s = ap (λ o. ordering_then o (place_cmp p (p ++ s ∷ []))) (tied_itself step_total t) ∙ longer_after p s

by_last_step : (p : List PlaceStep) (s t : PlaceStep) → step_cmp s t ≡ Less → place_cmp (p ++ s ∷ []) (p ++ t ∷ []) ≡ Less
by_last_step [] s t e = ap (λ o. ordering_then o (place_cmp [] [])) e
by_last_step (u ∷ p) s t e = ap (λ o. ordering_then o (place_cmp (p ++ s ∷ []) (p ++ t ∷ []))) (tied_itself step_total u) ∙ by_last_step p s t e

module _ (e : Stored) where
  in_one : (p q : List PlaceStep) → place_cmp p q ≡ Less → node_cmp (at_place e p) (at_place e q) ≡ Less
  in_one p q h = ap (λ o. ordering_then o (place_cmp p q)) (tied_itself nat_list_cmp_total e.name) ∙ h

  abbrev pub nodes_on : ℕ → List Attr → List Stored
  nodes_on i left = map (at_place e) (map (λ way. e.place ++ way) (one_step_each steps.Attr i left))

  all_after : (i : ℕ) (left : List Attr) → IsBefore node_cmp e (nodes_on i left)
  all_after i [] = tt
  all_after i (a ∷ left) = (in_one e.place (e.place ++ steps.Attr i ∷ []) (longer_after e.place (steps.Attr i)), all_after (i + 1) left)

  after_one : (j i : ℕ) (left : List Attr) → j < i → IsBefore node_cmp (at_place e (e.place ++ steps.Attr j ∷ [])) (nodes_on i left)
  after_one j i [] h = tt
  after_one j i (a ∷ left) h = (
    in_one (e.place ++ steps.Attr j ∷ []) (e.place ++ steps.Attr i ∷ []) (by_last_step e.place (steps.Attr j) (steps.Attr i) (sym (nat_cmp_is j i Less h))),
    after_one j (i + 1) left (omega arith),
  )

  in_order : (i : ℕ) (left : List Attr) → Rises node_cmp (nodes_on i left)
  in_order i [] = tt
  in_order i (a ∷ left) = (after_one i (i + 1) left (omega arith), in_order (i + 1) left)

-- ---- names

module _ (F : Forest) (e : Stored) (root : Placed) (t : tree_of F e ≡ Some root) (from : Placed) (h : standing root e.place ≡ Some from)
    (changes : List edits.Change) where
  name_there : (i : ℕ) (a : Attr) → step_from from (steps.Attr i) ≡ Some (an_attribute a) → name_at F (at_place e (e.place ++ steps.Attr i ∷ [])) ≡ a.name
  name_there i a q =
      ap (λ o. (told_at o).name)
      (ap (option_and_then (λ root. standing root (e.place ++ steps.Attr i ∷ []))) t ∙ (placed_more e.place (steps.Attr i) (Some root) from h ∙ q))

  -- the names of the attributes after changes, one attribute after another
  names_on : (i : ℕ) (left : List Attr) → drop i (attrs_of from) ≡ left
      → flat_map (λ n. names_edited (name_at F n) (done_to changes n)) (nodes_on e i left)
      ≡ names_of (edited_attributes (λ place. edits.done_in e.name changes (e.place ++ place)) i left)
  names_on i [] d = refl
  names_on i (a ∷ left) d =
      let one = drop_first (attrs_of from) i a left d in
      let o = edits.done_in e.name changes (e.place ++ steps.Attr i ∷ []) in
      ap (λ name. names_edited name o ++ flat_map (λ n. names_edited (name_at F n) (done_to changes n)) (nodes_on e (i + 1) left))
      (name_there i a (ap (option_map an_attribute) one.0))
      ∙ (ap (λ names. names ++ flat_map (λ n. names_edited (name_at F n) (done_to changes n)) (nodes_on e (i + 1) left)) (sym (one_edited a o))
      ∙ (ap (λ rest. names_of (edited_attribute a o) ++ rest) (names_on (i + 1) left one.1)
      ∙ sym (map-append (λ (a : Attr). a.name) (edited_attribute a o) (edited_attributes (λ place. edits.done_in e.name changes (e.place ++ place))
      (i + 1) left))))

-- what is known of the attributes of an element as nodes
pub record AttributesAre (F : Forest) (e : Stored) (changes : List edits.Change) (nodes : List Stored) (attrs : List Attr) : Type 0 where
  pub after : IsBefore node_cmp e nodes
  pub order : Rises node_cmp nodes
  pub names : flat_map (λ n. names_edited (name_at F n) (done_to changes n)) nodes
      ≡ names_of (edited_attributes (λ place. edits.done_in e.name changes (e.place ++ place)) 0 attrs)

-- the attributes of an element, as nodes and as what is edited
pub known : (F : Forest) (e : Stored) (changes : List edits.Change) → AttributesAre F e changes (nodes_at attribute_places F e)
    (attrs_of (edits.standing_at (forests.get F) e))
known F e changes = subst (λ it. AttributesAre F e changes (nodes_at attribute_places F e) (attrs_of it)) (sym (standing_is F e)) (in_tree (tree_of F e) refl)
  where
    none : AttributesAre F e changes [] []
    none = record { after = tt; order = tt; names = refl }

    in_tree : (o : Option Placed) → tree_of F e ≡ o
        → AttributesAre F e changes (option_map_or (λ root. map (at_place e) (attribute_places root e.place)) o [])
        (attrs_of (unwrap_or (option_and_then (λ root. standing root e.place) o) no_nodes))
    in_tree None t = none
    in_tree (Some root) t = at_node (standing root e.place) refl
      where
        at_node : (o : Option Placed) → standing root e.place ≡ o
            → AttributesAre F e changes (map (at_place e) (option_map_or (λ from. map (λ way. e.place ++ way) (attribute_ways from)) o []))
            (attrs_of (unwrap_or o no_nodes))
        at_node None h = none
        at_node (Some from) h = record {
          after = all_after e 0 (attrs_of from);
          order = in_order e 0 (attrs_of from);
          names = names_on F e root t from h changes 0 (attrs_of from) refl;
        }
