-- Steps over stored nodes are steps without their predicates.
use Rattle.std.proofs.Common.{◌≡◌, Bool, true, false, not, ◌&&◌, cond, List, [], ◌∷◌, ◌++◌, map, Option, Some, None, unwrap_or, refl, sym, ap, ◌∙◌}
use Rattle.std.specs.FinMap as forests
use Rattle.std.specs.List.{filter, flat_map}
use Rattle.std.specs.Option.{option_map, option_map_or, option_and, option_and_then, option_to_list}
use Rattle.std.proofs.lemmas.List.Elements.{filter-append}
use Rattle.xq_ast.specs.declared.step.Axis.{Axis}
use Rattle.xq_ast.specs.declared.step.Axis.TheVariants as axis
use Rattle.xq_ast.specs.declared.step.Test.{Test}
use Rattle.xq_ast.specs.declared.step.Test.TheVariants as test
use Rattle.xml_model.specs.declared.nav.Id.{Id}
use Rattle.xml_model.specs.declared.node.Node.{Node, out-Node}
use Rattle.xml_model.specs.declared.node.Node.TheOpen.{Node-F}
use Rattle.xml_model.specs.declared.place.PlaceStep.{PlaceStep}
use Rattle.xml_model.specs.declared.place.PlaceStep.TheVariants as steps
use Rattle.xml_model.specs.Axes.{child_places, attribute_places, descendant_places, parent_places, child_ways, attribute_ways, descendant_ways, led, axis_places, axis_nodes, nodes_at, held_nodes}
use Rattle.xml_model.specs.Forest.{Forest}
use Rattle.xml_model.specs.Items.{NodeAt, Made, stored, node_at}
use Rattle.xml_model.specs.Nav.{Stored, tree_of, stored_at, told_at, told_in, at_place, standing, Ending, ending, first_of_node}
use Rattle.xml_model.specs.Nodes.{passes_at, name_passes, is_text, is_instruction, has_name, no_nodes, tested, is_attribute_axis}
use Rattle.xml_model.specs.Place.{Placed, the_document, a_node, an_attribute, placed_from, step_from}
use Rattle.xq_values.specs.declared.item.NodeId.TheVariants as id
use Rattle.xq_values.specs.Seen.{node_seen}
use Rattle.xq_nodes.specs.Walks.{is_attribute, is_of_texts}
use Rattle.xq_nodes.specs.Steps.{is_named, is_of_instructions, told_passes, fits, inside, with_way}
use Rattle.xq_nodes.specs.declared.steps.Way.{Way}
use Rattle.xq_nodes.specs.declared.steps.Way.TheVariants as way
use Rattle.xq_nodes.proofs.Parts.{parts}
use Rattle.xq_nodes.proofs.Chain.{seen_nodes, held_seen}
use Rattle.xq_nodes.proofs.Places.{nowhere}

-- ---- tests by what nodes tell

layer_named : (wanted : Option (List _)) (on_attributes : Bool) (x : Node-F Node) → name_passes wanted on_attributes x ≡ (is_named on_attributes (told_in x).kind && has_name wanted (told_in x).name)
layer_named wanted true (Node-F.Element name attrs kids) = refl
layer_named wanted false (Node-F.Element name attrs kids) = refl
layer_named wanted true (Node-F.Text value) = refl
layer_named wanted false (Node-F.Text value) = refl
layer_named wanted true (Node-F.Pi target value) = refl
layer_named wanted false (Node-F.Pi target value) = refl

layer_text : (x : Node-F Node) → is_text x ≡ is_of_texts (told_in x).kind
layer_text (Node-F.Element name attrs kids) = refl
layer_text (Node-F.Text value) = refl
layer_text (Node-F.Pi target value) = refl

layer_instruction : (x : Node-F Node) → is_instruction x ≡ is_of_instructions (told_in x).kind
layer_instruction (Node-F.Element name attrs kids) = refl
layer_instruction (Node-F.Text value) = refl
layer_instruction (Node-F.Pi target value) = refl

-- what passes a test is known from what it tells
pub passes_by : (on_attributes : Bool) (wanted : Test) (o : Option Placed) → passes_at on_attributes wanted o ≡ told_passes on_attributes wanted (told_at o)
passes_by on_attributes (test.Name name) None = refl
passes_by on_attributes (test.Name name) (Some (the_document doc)) = refl
passes_by on_attributes (test.Name name) (Some (a_node n)) = layer_named name on_attributes (out-Node n)
passes_by on_attributes (test.Name name) (Some (an_attribute a)) = refl
passes_by on_attributes test.AnyNode None = refl
passes_by on_attributes test.AnyNode (Some there) = refl
passes_by on_attributes test.Text None = refl
passes_by on_attributes test.Text (Some (the_document doc)) = refl
passes_by on_attributes test.Text (Some (a_node n)) = layer_text (out-Node n)
passes_by on_attributes test.Text (Some (an_attribute a)) = refl
passes_by on_attributes test.Pi None = refl
passes_by on_attributes test.Pi (Some (the_document doc)) = refl
passes_by on_attributes test.Pi (Some (a_node n)) = layer_instruction (out-Node n)
passes_by on_attributes test.Pi (Some (an_attribute a)) = refl

-- ---- lists

pub filter_flat : {A B : Type 0} (p : B → Bool) (g : A → List B) (xs : List A) → flat_map (λ x. filter p (g x)) xs ≡ filter p (flat_map g xs)
filter_flat p g [] = refl
filter_flat p g (x ∷ xs) = ap (λ l. filter p (g x) ++ l) (filter_flat p g xs) ∙ sym (filter-append p (g x) (flat_map g xs))

-- those that pass are listed one by one
kept_one : {A : Type 0} (p : A → Bool) (xs : List A) → flat_map (λ x. cond (p x) (x ∷ []) []) xs ≡ filter p xs
kept_one p [] = refl
kept_one {A} p (x ∷ xs) = go (p x) (flat_map (λ x. cond (p x) (x ∷ []) []) xs) (filter p xs) (kept_one p xs)
  where
    go : (b : Bool) (l m : List A) → l ≡ m → cond b (x ∷ []) [] ++ l ≡ cond b (x ∷ m) m
    go true l m e = ap (λ l. x ∷ l) e
    go false l m e = e

kept_other : {A : Type 0} (p : A → Bool) (xs : List A) → flat_map (λ x. cond (p x) [] (x ∷ [])) xs ≡ filter (λ x. not (p x)) xs
kept_other p [] = refl
kept_other {A} p (x ∷ xs) = go (p x) (flat_map (λ x. cond (p x) [] (x ∷ [])) xs) (filter (λ x. not (p x)) xs) (kept_other p xs)
  where
    go : (b : Bool) (l m : List A) → l ≡ m → cond b [] (x ∷ []) ++ l ≡ cond (not b) (x ∷ m) m
    go true l m e = e
    go false l m e = ap (λ l. x ∷ l) e

pub filter_map : {A B : Type 0} (f : A → B) (p : B → Bool) (q : A → Bool) → ((x : A) → p (f x) ≡ q x) → (xs : List A) → filter p (map f xs) ≡ map f (filter q xs)
filter_map f p q h [] = refl
filter_map f p q h (x ∷ xs) = ap (λ b. cond b (f x ∷ filter p (map f xs)) (filter p (map f xs))) (h x) ∙ go (q x) (filter_map f p q h xs)
  where
    go : (b : Bool) → filter p (map f xs) ≡ map f (filter q xs) → cond b (f x ∷ filter p (map f xs)) (filter p (map f xs)) ≡ map f (cond b (x ∷ filter q xs) (filter q xs))
    go true e = ap (λ l. f x ∷ l) e
    go false e = e

map_twice : {A B C : Type 0} (f : A → B) (g : B → C) (h : A → C) → ((x : A) → g (f x) ≡ h x) → (xs : List A) → map g (map f xs) ≡ map h xs
map_twice f g h e [] = refl
map_twice f g h e (x ∷ xs) = ap (λ y. y ∷ map g (map f xs)) (e x) ∙ ap (λ l. h x ∷ l) (map_twice f g h e xs)

-- ---- what stands in a node

-- what a way finds from a node comes of the nodes that stand in it
pub inside_is : (w : Way) (F : Forest) (node : Stored) → flat_map (with_way w F) (held_nodes F node) ≡ inside w F node
inside_is way.Children F node = kept_other (is_attribute F) (held_nodes F node) ∙ (parts F node).1
inside_is way.Attributes F node = kept_one (is_attribute F) (held_nodes F node) ∙ (parts F node).0
inside_is way.Descendants F node = (parts F node).2

pub inside_passing : (p : Stored → Bool) (w : Way) (F : Forest) (node : Stored) → flat_map (λ s. filter p (with_way w F s)) (held_nodes F node) ≡ filter p (inside w F node)
inside_passing p w F node = filter_flat p (with_way w F) (held_nodes F node) ∙ ap (filter p) (inside_is w F node)

-- at the first of the nodes that stand in a node
pub begun : (p : Stored → Bool) (w : Way) (F : Forest) (node : Stored) (o : Option Stored) → o ≡ first_of_node F node
    → flat_map (λ s. filter p (with_way w F s)) (seen_nodes F o) ≡ filter p (inside w F node)
begun p w F node o e =
    ap (λ o. flat_map (λ s. filter p (with_way w F s)) (seen_nodes F o)) e
    ∙ (ap (flat_map (λ s. filter p (with_way w F s))) (sym (held_seen F node)) ∙ inside_passing p w F node)

-- ---- axes

-- a stored node, as evaluation sees it
abbrev pub as_node : Stored → NodeAt
as_node node = record { tree = stored node.name; place = node.place }

stored_there : (p : List PlaceStep) (o : Option Placed) → placed_from p o ≡ option_and_then (λ root. placed_from p (Some root)) o
stored_there p None = nowhere p
stored_there p (Some root) = refl

-- what stands at a stored node, as evaluation sees it
pub node_at_stored : (F : Forest) (made : Made) (node : Stored) → node_at (forests.get F) made (as_node node) ≡ stored_at F node
node_at_stored F made node = stored_there node.place (tree_of F node)

step_nowhere : (s : PlaceStep) → step_from no_nodes s ≡ None
step_nowhere (steps.Attr i) = refl
step_nowhere (steps.Kid i) = refl

nothing_behind : (s : PlaceStep) (p : List PlaceStep) → standing no_nodes (s ∷ p) ≡ None
nothing_behind s p = ap (placed_from p) (step_nowhere s) ∙ nowhere p

pub led_nowhere : (ways : Placed → List (List PlaceStep)) → ways no_nodes ≡ [] → (p : List PlaceStep) → led ways no_nodes p ≡ []
led_nowhere ways e [] = ap (map (λ way. [] ++ way)) e
led_nowhere ways e (s ∷ p) = ap (λ o. option_map_or (λ from. map (λ way. (s ∷ p) ++ way) (ways from)) o []) (nothing_behind s p)

pub no_parent : (p : List PlaceStep) → parent_places no_nodes p ≡ []
no_parent [] = refl
no_parent (s ∷ p) = ap (λ o. option_to_list (option_and o (option_map (λ (e : Ending). e.above) (ending (s ∷ p))))) (nothing_behind s p)

module _ (F : Forest) (node : Stored) where
  abbrev at_tree : List PlaceStep → NodeAt
  at_tree place = record { tree = stored node.name; place = place }

  in_tree : (places : Placed → List PlaceStep → List (List PlaceStep)) → places no_nodes node.place ≡ []
      → map at_tree (places (unwrap_or (tree_of F node) no_nodes) node.place) ≡ map as_node (nodes_at places F node)
  in_tree places e = go (tree_of F node)
    where
      go : (o : Option Placed) → map at_tree (places (unwrap_or o no_nodes) node.place) ≡ map as_node (option_map_or (λ root. map (at_place node) (places root node.place)) o [])
      go None = ap (map at_tree) e
      go (Some root) = sym (map_twice (at_place node) as_node at_tree (λ place. refl) (places root node.place))

  -- an axis from a stored node, as evaluation sees it
  pub axis_is : (way : Axis) → map at_tree (axis_places way (unwrap_or (tree_of F node) no_nodes) node.place) ≡ map as_node (axis_nodes way F node)
  axis_is axis.Child = in_tree child_places (led_nowhere child_ways refl node.place)
  axis_is axis.Descendant = in_tree descendant_places (led_nowhere descendant_ways refl node.place)
  axis_is axis.DescendantOrSelf = ap (λ l. as_node node ∷ l) (in_tree descendant_places (led_nowhere descendant_ways refl node.place))
  axis_is axis.Itself = refl
  axis_is axis.Attribute = in_tree attribute_places (led_nowhere attribute_ways refl node.place)
  axis_is axis.Parent = in_tree parent_places (no_parent node.place)

  -- the nodes of an axis that pass a test
  pub stored_tested : (made : Made) (way : Axis) (wanted : Test)
      → tested (forests.get F) made way wanted (as_node node) ≡ map as_node (filter (fits F (is_attribute_axis way) wanted) (axis_nodes way F node))
  stored_tested made way wanted =
      ap (filter (λ m. passes_at (is_attribute_axis way) wanted (node_at (forests.get F) made m))) (axis_is way)
      ∙ filter_map as_node (λ m. passes_at (is_attribute_axis way) wanted (node_at (forests.get F) made m)) (fits F (is_attribute_axis way) wanted)
      (λ s. ap (passes_at (is_attribute_axis way) wanted) (node_at_stored F made s) ∙ passes_by (is_attribute_axis way) wanted (stored_at F s)) (axis_nodes way F node)

-- ids of stored nodes, as evaluation sees them
pub ids_seen : (place : Id → Stored) (ids : List Id) → map (node_seen place) (map (λ n. id.Stored n) ids) ≡ map as_node (map place ids)
ids_seen place [] = refl
ids_seen place (n ∷ ids) = ap (λ l. as_node (place n) ∷ l) (ids_seen place ids)
