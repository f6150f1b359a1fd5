-- Axes in constructed trees are axes of evaluation.
use Rattle.std.proofs.Common.{◌≡◌, ℕ, suc, ◌-◌, ◌≤◌, Bool, true, false, cond, List, [], ◌∷◌, ◌++◌, map, length, take, Option, Some, None, unwrap_or, refl, sym, ap, ◌∙◌, arith}
use Rattle.std.specs.List.{filter, slice_get}
use Rattle.std.specs.Option.{option_map, option_map_or, option_and, option_to_list}
use Rattle.std.proofs.lemmas.Option.{same_Some}
use Rattle.xq_ast.specs.declared.step.Axis.{Axis}
use Rattle.xq_ast.specs.declared.step.Axis.TheVariants as axis
use Rattle.xq_ast.specs.declared.step.Test.{Test}
use Rattle.xml_model.specs.declared.nav.Id.{Id}
use Rattle.xml_model.specs.declared.place.PlaceStep.{PlaceStep}
use Rattle.xml_model.specs.Axes.{child_places, attribute_places, descendant_places, parent_places, child_ways, attribute_ways, descendant_ways, led, axis_places}
use Rattle.xml_model.specs.Items.{Documents, NodeAt, Made, constructed, node_at}
use Rattle.xml_model.specs.Nav.{Stored, Ending, ending, behind_step}
use Rattle.xml_model.specs.Nodes.{passes_at, no_nodes, tested, is_attribute_axis}
use Rattle.xml_model.specs.Place.{Placed, placed_from}
use Rattle.xq_values.specs.declared.item.NodeId.{NodeId}
use Rattle.xq_values.specs.Seen.{node_seen}
use Rattle.xq_nodes.specs.MadeSteps.{way_fits, kids_fitting, attrs_fitting, made_node, made_where, kids_at, attrs_at, standing_made, itself_fitting, children_fitting, axis_fitting}
use Rattle.xq_nodes.proofs.MadeStepping.{child_fit, descendant_fit, attribute_fit}
use Rattle.xq_nodes.proofs.Places.{nowhere}
use Rattle.xq_nodes.proofs.Stepping.{filter_map, led_nowhere, no_parent}
use Rattle.xq_nodes.proofs.StringValues.{placed_on}

-- above a place is the place without its last step
pub above_is : (place : List PlaceStep) → 1 ≤ length place → option_map (λ (e : Ending). e.above) (ending place) ≡ Some (take (length place - 1) place)
above_is [] h = absurd (omega arith)
above_is (s ∷ []) h = let e : length (s ∷ []) - 1 ≡ 0 = omega arith in sym (ap (λ n. Some (take n (s ∷ []))) e)
above_is (s ∷ t ∷ place) h =
    let e : length (s ∷ t ∷ place) - 1 ≡ suc (length (t ∷ place) - 1) = omega arith in
    ap (λ l. Some (s ∷ l)) (same_Some (behind_step t (ending place)).above (take (length (t ∷ place) - 1) (t ∷ place)) (above_is (t ∷ place) (omega arith)))
    ∙ sym (ap (λ n. Some (take n (s ∷ t ∷ place))) e)

-- ---- places that are found

module _ (wanted : Test) where
  abbrev found : Bool → Option Placed → List (List PlaceStep) → List (List PlaceStep)
  found on_attributes o places = filter (λ place. passes_at on_attributes wanted (placed_from place o)) places

  led_found : (on_attributes : Bool) (ways : Placed → List (List PlaceStep)) → ways no_nodes ≡ [] → (p : List PlaceStep) (o : Option Placed)
      → found on_attributes o (led ways (unwrap_or o no_nodes) p) ≡ option_map_or (λ from. map (λ way. p ++ way) (filter (way_fits on_attributes wanted from) (ways from))) (placed_from p o) []
  led_found on_attributes ways none p None =
      ap (found on_attributes None) (led_nowhere ways none p)
      ∙ sym (ap (λ o. option_map_or (λ from. map (λ way. p ++ way) (filter (way_fits on_attributes wanted from) (ways from))) o []) (nowhere p))
  led_found on_attributes ways none p (Some root) = go (placed_from p (Some root)) refl
    where
      go : (s : Option Placed) → placed_from p (Some root) ≡ s
          → found on_attributes (Some root) (option_map_or (λ from. map (λ way. p ++ way) (ways from)) s []) ≡ option_map_or (λ from. map (λ way. p ++ way) (filter (way_fits on_attributes wanted from) (ways from))) s []
      go None e = refl
      go (Some from) e =
          filter_map (λ (way : List PlaceStep). p ++ way) (λ place. passes_at on_attributes wanted (placed_from place (Some root))) (way_fits on_attributes wanted from)
          (λ way. ap (passes_at on_attributes wanted) (placed_on p way (Some root) ∙ ap (placed_from way) e)) (ways from)

  children_found : (p : List PlaceStep) (o : Option Placed) → found false o (child_places (unwrap_or o no_nodes) p) ≡ map (λ way. p ++ way) (kids_fitting false wanted 0 (kids_at (placed_from p o)))
  children_found p o = led_found false child_ways refl p o ∙ go (placed_from p o)
    where
      go : (s : Option Placed) → option_map_or (λ from. map (λ way. p ++ way) (filter (way_fits false wanted from) (child_ways from))) s [] ≡ map (λ way. p ++ way) (kids_fitting false wanted 0 (kids_at s))
      go None = refl
      go (Some from) = ap (map (λ way. p ++ way)) (child_fit wanted from)

  descendants_found : (p : List PlaceStep) (o : Option Placed)
      → found false o (descendant_places (unwrap_or o no_nodes) p) ≡ map (λ way. p ++ way) (kids_fitting true wanted 0 (kids_at (placed_from p o)))
  descendants_found p o = led_found false descendant_ways refl p o ∙ go (placed_from p o)
    where
      go : (s : Option Placed) → option_map_or (λ from. map (λ way. p ++ way) (filter (way_fits false wanted from) (descendant_ways from))) s [] ≡ map (λ way. p ++ way) (kids_fitting true wanted 0 (kids_at s))
      go None = refl
      go (Some from) = ap (map (λ way. p ++ way)) (descendant_fit wanted from)

  attributes_found : (p : List PlaceStep) (o : Option Placed) → found true o (attribute_places (unwrap_or o no_nodes) p) ≡ map (λ way. p ++ way) (attrs_fitting wanted 0 (attrs_at (placed_from p o)))
  attributes_found p o = led_found true attribute_ways refl p o ∙ go (placed_from p o)
    where
      go : (s : Option Placed) → option_map_or (λ from. map (λ way. p ++ way) (filter (way_fits true wanted from) (attribute_ways from))) s [] ≡ map (λ way. p ++ way) (attrs_fitting wanted 0 (attrs_at s))
      go None = refl
      go (Some from) = ap (map (λ way. p ++ way)) (attribute_fit wanted from)

-- ---- constructed trees

module _ (docs : Documents) (made : Made) (wanted : Test) (tree : ℕ) (place : Id → Stored) where
  abbrev at_tree : List PlaceStep → NodeAt
  at_tree p = record { tree = constructed tree; place = p }

  abbrev root_there : Option Placed
  root_there = slice_get made tree

  ways_seen : (p : List PlaceStep) (ways : List (List PlaceStep)) → map (node_seen place) (map (made_node tree p) ways) ≡ map at_tree (map (λ way. p ++ way) ways)
  ways_seen p [] = refl
  ways_seen p (w ∷ ways) = ap (λ l. at_tree (p ++ w) ∷ l) (ways_seen p ways)

  where_seen : (b : Bool) (p : List PlaceStep) (more : List NodeId) (places : List (List PlaceStep)) → map (node_seen place) more ≡ map at_tree places
      → map (node_seen place) (made_where b tree p ++ more) ≡ map at_tree (cond b (p ∷ places) places)
  where_seen true p more places e = ap (λ l. at_tree p ∷ l) e
  where_seen false p more places e = e

  itself_seen : (p : List PlaceStep) → map (node_seen place) (itself_fitting made wanted tree p) ≡ map at_tree (found wanted false root_there (p ∷ []))
  itself_seen p = go (passes_at false wanted (standing_made made tree p))
    where
      go : (b : Bool) → map (node_seen place) (made_where b tree p) ≡ map at_tree (cond b (p ∷ []) [])
      go true = refl
      go false = refl

  parent_seen : (p : List PlaceStep) (o : Option Placed) → root_there ≡ o
      → map (node_seen place) (option_map_or (itself_fitting made wanted tree) (option_and (placed_from p o) (option_map (λ (e : Ending). e.above) (ending p))) [])
      ≡ map at_tree (found wanted false root_there (parent_places (unwrap_or o no_nodes) p))
  parent_seen p None e =
      ap (λ s. map (node_seen place) (option_map_or (itself_fitting made wanted tree) (option_and s (option_map (λ (e : Ending). e.above) (ending p))) [])) (nowhere p)
      ∙ sym (ap (λ l. map at_tree (found wanted false root_there l)) (no_parent p))
  parent_seen p (Some root) e = go (option_and (placed_from p (Some root)) (option_map (λ (e : Ending). e.above) (ending p)))
    where
      go : (above : Option (List PlaceStep)) → map (node_seen place) (option_map_or (itself_fitting made wanted tree) above []) ≡ map at_tree (found wanted false root_there (option_to_list above))
      go None = refl
      go (Some q) = itself_seen q

  found_on : (way : Axis) (p : List PlaceStep) → map (node_seen place) (axis_fitting way made wanted tree p) ≡ map at_tree (found wanted (is_attribute_axis way) root_there (axis_places way (unwrap_or root_there no_nodes) p))
  found_on axis.Child p = ways_seen p (kids_fitting false wanted 0 (kids_at (standing_made made tree p))) ∙ ap (map at_tree) (sym (children_found wanted p root_there))
  found_on axis.Descendant p = ways_seen p (kids_fitting true wanted 0 (kids_at (standing_made made tree p))) ∙ ap (map at_tree) (sym (descendants_found wanted p root_there))
  found_on axis.DescendantOrSelf p =
      where_seen (passes_at false wanted (standing_made made tree p)) p (children_fitting made wanted true tree p) (found wanted false root_there (descendant_places (unwrap_or root_there no_nodes) p))
      (ways_seen p (kids_fitting true wanted 0 (kids_at (standing_made made tree p))) ∙ ap (map at_tree) (sym (descendants_found wanted p root_there)))
  found_on axis.Itself p = itself_seen p
  found_on axis.Attribute p = ways_seen p (attrs_fitting wanted 0 (attrs_at (standing_made made tree p))) ∙ ap (map at_tree) (sym (attributes_found wanted p root_there))
  found_on axis.Parent p = parent_seen p root_there refl

  -- the nodes of an axis from a constructed node that pass the test
  pub made_tested : (way : Axis) (p : List PlaceStep) → map (node_seen place) (axis_fitting way made wanted tree p) ≡ tested docs made way wanted (record { tree = constructed tree; place = p })
  made_tested way p =
      found_on way p
      ∙ sym (filter_map at_tree (λ m. passes_at (is_attribute_axis way) wanted (node_at docs made m)) (λ q. passes_at (is_attribute_axis way) wanted (placed_from q root_there)) (λ q. refl)
      (axis_places way (unwrap_or root_there no_nodes) p))
