-- Nodes in evaluation: document order (XQuery 1.0 and XPath 2.0 Data Model, section 2.4), union (XML Path Language 2.0,
-- section 3.3.3), what a node holds, and steps without their predicates (section 3.2).
use Rattle.std.specs.Prelude.{ℕ, Bool, true, false, ◌&&◌, List, [], ◌∷◌, map, filter, bytes_eq, Option, Some, None, Result, Ok, Err, unwrap_or}
use Rattle.std.specs.Ordering.{nat_cmp, ordering_then}
use Rattle.std.specs.Cmp.Lexicographic.{slice_cmp}
use Rattle.std.specs.declared.cmp.Ordering.{Ordering}
use Rattle.std.specs.declared.cmp.Ordering.TheVariants.{Less, Greater}
use Rattle.xq_ast.specs.declared.code.Code.{Code}
use Rattle.xq_ast.specs.declared.code.Code.TheVariants.{XPTY0004}
use Rattle.xq_ast.specs.declared.step.Axis.{Axis}
use Rattle.xq_ast.specs.declared.step.Axis.TheVariants as axis
use Rattle.xq_ast.specs.declared.step.Test.{Test}
use Rattle.xq_ast.specs.declared.step.Test.TheVariants as test
use Rattle.xml_model.specs.declared.node.Node.{Node, out-Node}
use Rattle.xml_model.specs.declared.node.Node.TheOpen.{Node-F}
use Rattle.xml_model.specs.Place.{Placed, the_document, a_node, an_attribute, place_cmp}
use Rattle.xml_model.specs.Axes.{axis_places, string_value}
use Rattle.xml_model.specs.DocumentOrder.{union, in_order}
use Rattle.xml_model.specs.Items.{Documents, Tree, stored, constructed, NodeAt, Item, Items, node, string, integer, boolean, Made, tree_root, node_at, ◌>>?◌}
use Rattle.xml_model.specs.declared.value.Atom.{Atom}
use Rattle.xml_model.specs.declared.value.Atom.TheVariants as atom
use Rattle.xml_model.specs.Atoms.{Atoms}

-- ---- document order

-- documents in the order of their names, before constructed trees in the order of their construction
abbrev pub tree_cmp : Tree → Tree → Ordering
tree_cmp (stored a) (stored b) = slice_cmp nat_cmp a b
tree_cmp (stored a) (constructed n) = Less
tree_cmp (constructed n) (stored b) = Greater
tree_cmp (constructed n) (constructed m) = nat_cmp n m

-- by tree, and in one tree by place
abbrev pub node_cmp : NodeAt → NodeAt → Ordering
node_cmp a b = ordering_then (tree_cmp a.tree b.tree) (place_cmp a.place b.place)

-- ---- lists of nodes

-- the nodes of a list that has nothing else, or the code
abbrev pub nodes_or : Code → Items → Result (List NodeAt) Code
nodes_or code [] = Ok []
nodes_or code (node n ∷ items) = nodes_or code items >>? (λ ns. Ok (n ∷ ns))
nodes_or code (string text ∷ items) = Err code
nodes_or code (integer n ∷ items) = Err code
nodes_or code (boolean b ∷ items) = Err code

-- nodes in document order and those of a list more, in document order, each once; the list has nothing else
abbrev pub united : List NodeAt → Items → Result (List NodeAt) Code
united left right = nodes_or XPTY0004 right >>? (λ ns. Ok (union node_cmp left (in_order node_cmp ns)))

-- one list after another
abbrev pub united_all : List NodeAt → List Items → Result (List NodeAt) Code
united_all left [] = Ok left
united_all left (right ∷ more) = united left right >>? (λ ns. united_all ns more)

-- ---- what a node holds

-- the string value of what stands there; nothing has none
abbrev pub value_at : Option Placed → List ℕ
value_at None = []
value_at (Some there) = string_value there

-- atomizing: a node gives its string value, untyped
abbrev pub atomized_item : Documents → Made → Item → Atom
atomized_item docs made (node n) = atom.Untyped (value_at (node_at docs made n))
atomized_item docs made (string text) = atom.Text text
atomized_item docs made (integer n) = atom.Int n
atomized_item docs made (boolean b) = atom.Truth b

-- each item of a list
abbrev pub atomized : Documents → Made → Items → Atoms
atomized docs made items = map (atomized_item docs made) items

-- the name of an element or attribute and the target of an instruction; texts and documents have none
abbrev pub name_in : Node-F Node → List ℕ
name_in (Node-F.Element name attrs kids) = name
name_in (Node-F.Text value) = []
name_in (Node-F.Pi target value) = target

abbrev pub name_of : Placed → List ℕ
name_of (the_document doc) = []
name_of (a_node n) = name_in (out-Node n)
name_of (an_attribute a) = a.name

-- ---- steps

-- `*` matches any name
abbrev pub has_name : Option (List ℕ) → List ℕ → Bool
has_name None name = true
has_name (Some wanted) name = bytes_eq wanted name

-- a name test matches elements, and on the attribute axis attributes; the argument says whether it is that axis
abbrev pub name_passes : Option (List ℕ) → Bool → Node-F Node → Bool
name_passes wanted true layer = false
name_passes wanted false (Node-F.Element name attrs kids) = has_name wanted name
name_passes wanted false (Node-F.Text value) = false
name_passes wanted false (Node-F.Pi target value) = false

abbrev pub is_text : Node-F Node → Bool
is_text (Node-F.Element name attrs kids) = false
is_text (Node-F.Text value) = true
is_text (Node-F.Pi target value) = false

abbrev pub is_instruction : Node-F Node → Bool
is_instruction (Node-F.Element name attrs kids) = false
is_instruction (Node-F.Text value) = false
is_instruction (Node-F.Pi target value) = true

-- whether what stands there passes the test; the first argument says whether the axis is that of attributes
abbrev pub passes : Bool → Test → Placed → Bool
passes on_attributes (test.Name wanted) (the_document doc) = false
passes on_attributes (test.Name wanted) (a_node n) = name_passes wanted on_attributes (out-Node n)
passes on_attributes (test.Name wanted) (an_attribute a) = on_attributes && has_name wanted a.name
passes on_attributes test.AnyNode there = true
passes on_attributes test.Text (the_document doc) = false
passes on_attributes test.Text (a_node n) = is_text (out-Node n)
passes on_attributes test.Text (an_attribute a) = false
passes on_attributes test.Pi (the_document doc) = false
passes on_attributes test.Pi (a_node n) = is_instruction (out-Node n)
passes on_attributes test.Pi (an_attribute a) = false

abbrev pub is_attribute_axis : Axis → Bool
is_attribute_axis axis.Child = false
is_attribute_axis axis.Descendant = false
is_attribute_axis axis.DescendantOrSelf = false
is_attribute_axis axis.Itself = false
is_attribute_axis axis.Attribute = true
is_attribute_axis axis.Parent = false

-- a document without nodes: for it is taken what stands nowhere, and a tree that is not there
abbrev pub no_nodes : Placed
no_nodes = the_document (record { kids = [] })

abbrev pub passes_at : Bool → Test → Option Placed → Bool
passes_at on_attributes wanted None = passes on_attributes wanted no_nodes
passes_at on_attributes wanted (Some there) = passes on_attributes wanted there

-- the nodes of an axis that pass the test, in document order
abbrev pub tested : Documents → Made → Axis → Test → NodeAt → List NodeAt
tested docs made way wanted n =
    filter (λ m. passes_at (is_attribute_axis way) wanted (node_at docs made m))
    (map (λ place. record { tree = n.tree; place = place }) (axis_places way (unwrap_or (tree_root docs made n.tree) no_nodes) n.place))
