-- Axes (XML Path Language 2.0, section 3.2.1.1) and string values (XQuery 1.0 and XPath 2.0 Data Model, sections 5.13
-- and 6), in one tree, from its root and a place in it, and for stored nodes.
use Rattle.std.specs.Prelude.{ℕ, ◌+◌, List, [], ◌∷◌, ◌++◌, map}
use Rattle.std.specs.Option.{option_map_or, option_to_list}
use Rattle.xq_ast.specs.declared.step.Axis.{Axis}
use Rattle.xq_ast.specs.declared.step.Axis.TheVariants as axis
use Rattle.xml_model.specs.declared.node.Node.{Node, out-Node}
use Rattle.xml_model.specs.declared.node.Node.TheOpen.{Node-F, Element, Text, Pi}
use Rattle.xml_model.specs.declared.node.Node.TheFolds.{fold-Node}
use Rattle.xml_model.specs.declared.place.PlaceStep.{PlaceStep}
use Rattle.xml_model.specs.declared.place.PlaceStep.TheVariants as steps
use Rattle.xml_model.specs.Forest.{Forest}
use Rattle.xml_model.specs.Nav.{standing, parent_place, Stored, tree_of, stored_at, at_place}
use Rattle.xml_model.specs.Place.{Placed, the_document, a_node, an_attribute, attrs_of, kids_of}
use Rattle.xml_model.specs.Trees.{joined}

-- Ways: the steps from a node to what an axis finds, in document order.

-- one step to each of them, numbered from here on
abbrev pub one_step_each : {X : Type 0} → (ℕ → PlaceStep) → ℕ → List X → List (List PlaceStep)
one_step_each step i [] = []
one_step_each step i (x ∷ xs) = (step i ∷ []) ∷ one_step_each step (i + 1) xs

abbrev pub attribute_ways : Placed → List (List PlaceStep)
attribute_ways from = one_step_each steps.Attr 0 (attrs_of from)

abbrev pub child_ways : Placed → List (List PlaceStep)
child_ways from = one_step_each steps.Kid 0 (kids_of from)

-- into each child, numbered from here on, and on by its own ways
abbrev pub into_each : ℕ → List (List (List PlaceStep)) → List (List PlaceStep)
into_each i [] = []
into_each i (ways ∷ more) = map (λ way. steps.Kid i ∷ way) ways ++ into_each (i + 1) more

-- to the node itself and to all below it; attributes are no descendants
abbrev pub down_step : Node-F (List (List PlaceStep)) → List (List PlaceStep)
down_step (Element name attrs kids) = [] ∷ into_each 0 kids
down_step (Text value) = [] ∷ []
down_step (Pi target value) = [] ∷ []

abbrev pub ways_down : Node → List (List PlaceStep)
ways_down = fold-Node (List (List PlaceStep)) down_step

abbrev pub descendant_ways : Placed → List (List PlaceStep)
descendant_ways from = into_each 0 (map ways_down (kids_of from))

-- the places that ways lead to, from a place of the tree; from where nothing stands they lead nowhere
abbrev pub led : (Placed → List (List PlaceStep)) → Placed → List PlaceStep → List (List PlaceStep)
led ways root place = option_map_or (λ from. map (λ way. place ++ way) (ways from)) (standing root place) []

abbrev pub attribute_places : Placed → List PlaceStep → List (List PlaceStep)
attribute_places = led attribute_ways

abbrev pub child_places : Placed → List PlaceStep → List (List PlaceStep)
child_places = led child_ways

abbrev pub descendant_places : Placed → List PlaceStep → List (List PlaceStep)
descendant_places = led descendant_ways

-- a root has no parent
abbrev pub parent_places : Placed → List PlaceStep → List (List PlaceStep)
parent_places root place = option_to_list (parent_place root place)

abbrev pub axis_places : Axis → Placed → List PlaceStep → List (List PlaceStep)
axis_places axis.Child root place = child_places root place
axis_places axis.Descendant root place = descendant_places root place
axis_places axis.DescendantOrSelf root place = place ∷ descendant_places root place
axis_places axis.Itself root place = place ∷ []
axis_places axis.Attribute root place = attribute_places root place
axis_places axis.Parent root place = parent_places root place

-- all that stands in a node: its attributes, then its children
abbrev pub held_places : Placed → List PlaceStep → List (List PlaceStep)
held_places root place = attribute_places root place ++ child_places root place

-- String values.

-- the texts in a node, one after another
abbrev pub texts_step : Node-F (List ℕ) → List ℕ
texts_step (Element name attrs kids) = joined kids
texts_step (Text value) = value
texts_step (Pi target value) = []

abbrev pub texts_in : Node → List ℕ
texts_in = fold-Node (List ℕ) texts_step

-- of an element or a document the texts in it; of a text, an instruction or an attribute its value
abbrev pub string_in : Node-F Node → List ℕ
string_in (Element name attrs kids) = joined (map texts_in kids)
string_in (Text value) = value
string_in (Pi target value) = value

abbrev pub string_value : Placed → List ℕ
string_value (the_document doc) = joined (map texts_in doc.kids)
string_value (a_node n) = string_in (out-Node n)
string_value (an_attribute a) = a.value

-- Stored nodes.

-- the nodes at these places of its document, where its document is
abbrev pub nodes_at : (Placed → List PlaceStep → List (List PlaceStep)) → Forest → Stored → List Stored
nodes_at places F node = option_map_or (λ root. map (at_place node) (places root node.place)) (tree_of F node) []

-- A node is its own axis `self` also where it does not stand anywhere.
abbrev pub axis_nodes : Axis → Forest → Stored → List Stored
axis_nodes axis.Child F node = nodes_at child_places F node
axis_nodes axis.Descendant F node = nodes_at descendant_places F node
axis_nodes axis.DescendantOrSelf F node = node ∷ nodes_at descendant_places F node
axis_nodes axis.Itself F node = node ∷ []
axis_nodes axis.Attribute F node = nodes_at attribute_places F node
axis_nodes axis.Parent F node = nodes_at parent_places F node

abbrev pub held_nodes : Forest → Stored → List Stored
held_nodes = nodes_at held_places

-- what does not stand anywhere has the empty text
abbrev pub string_of_node : Forest → Stored → List ℕ
string_of_node F node = option_map_or string_value (stored_at F node) []
