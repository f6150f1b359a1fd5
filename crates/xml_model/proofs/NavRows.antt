-- Worked rows of navigation, axes, string values and document order. Each computes, once a node is seen by its layer.
use Rattle.std.specs.Prelude.{◌≡◌, ℕ, List, [], ◌∷◌, Some, None, refl, codes}
use Rattle.std.proofs.Common.{ap, ◌∙◌}
use Rattle.std.specs.declared.cmp.Ordering.TheVariants.{Less, Greater}
use Rattle.xq_ast.specs.declared.step.Axis.TheVariants.{Descendant}
use Rattle.xq_ast.specs.declared.kind.Kind.TheVariants as kind
use Rattle.xml_model.specs.declared.node.Attr.{Attr}
use Rattle.xml_model.specs.declared.node.Node.{Node}
use Rattle.xml_model.specs.declared.node.Node.TheVariants.{Element, Text}
use Rattle.xml_model.specs.declared.node.Node.TheOpen.{Node-F}
use Rattle.xml_model.specs.declared.place.PlaceStep.{PlaceStep}
use Rattle.xml_model.specs.declared.place.PlaceStep.TheVariants as steps
use Rattle.xml_model.specs.Axes.{axis_places, attribute_places, child_places, parent_places, string_value, down_step, texts_step}
use Rattle.xml_model.specs.DocumentOrder.{node_cmp, union}
use Rattle.xml_model.specs.Nav.{first_place, next_place}
use Rattle.xml_model.specs.Numbering.{tree_places, node_rows, Row, rows_step, all_step}
use Rattle.xml_model.specs.Place.{Placed, the_document, a_node, place_cmp}
use Rattle.xml_model.proofs.Nodes.{fold-Element, fold-Text}

abbrev n_is_w : Attr
n_is_w = record { name = codes "n"; value = codes "w" }

-- <i n="w">7</i>
abbrev i_is_7 : Node
i_is_7 = Element (codes "i") (n_is_w ∷ []) (Text (codes "7") ∷ [])

-- <r>8<b/><i n="w">7</i></r>
abbrev r : Node
r = Element (codes "r") [] (Text (codes "8") ∷ Element (codes "b") [] [] ∷ i_is_7 ∷ [])

abbrev document : Placed
document = the_document (record { kids = r ∷ [] })

abbrev at_r : List PlaceStep
at_r = steps.Kid 0 ∷ []

abbrev at_i : List PlaceStep
at_i = steps.Kid 0 ∷ steps.Kid 2 ∷ []

abbrev at_n : List PlaceStep
at_n = steps.Kid 0 ∷ steps.Kid 2 ∷ steps.Attr 0 ∷ []

-- doc('e')/r/node()
pub children_of_r : child_places document at_r ≡ (steps.Kid 0 ∷ steps.Kid 0 ∷ []) ∷ (steps.Kid 0 ∷ steps.Kid 1 ∷ []) ∷ at_i ∷ []
unfolding Rattle.xml_model.specs.declared.node.Node.TheViews.out-Node denote.Hole.Carrier.out Rattle.xml_model.specs.declared.node.Node.TheBlock.shown-the_row-Node-0 denote.Hole.Carrier.shown denote.Hole.Carrier.hidden
children_of_r = refl

-- a node that a query made is a root too, and a root has no parent
children_of_a_root : child_places (a_node i_is_7) [] ≡ (steps.Kid 0 ∷ []) ∷ []
unfolding Rattle.xml_model.specs.declared.node.Node.TheViews.out-Node denote.Hole.Carrier.out Rattle.xml_model.specs.declared.node.Node.TheBlock.shown-the_row-Node-0 denote.Hole.Carrier.shown denote.Hole.Carrier.hidden
children_of_a_root = refl

no_parent_of_a_root : parent_places (a_node i_is_7) [] ≡ []
no_parent_of_a_root = refl

no_parent_of_a_document : parent_places document [] ≡ []
no_parent_of_a_document = refl

-- attributes are no children, but an attribute's parent is its element
attributes_of_i : attribute_places document at_i ≡ at_n ∷ []
unfolding Rattle.xml_model.specs.declared.node.Node.TheViews.out-Node denote.Hole.Carrier.out Rattle.xml_model.specs.declared.node.Node.TheBlock.shown-the_row-Node-0 denote.Hole.Carrier.shown denote.Hole.Carrier.hidden
attributes_of_i = refl

parent_of_attribute : parent_places document at_n ≡ at_i ∷ []
unfolding Rattle.xml_model.specs.declared.node.Node.TheViews.out-Node denote.Hole.Carrier.out Rattle.xml_model.specs.declared.node.Node.TheBlock.shown-the_row-Node-0 denote.Hole.Carrier.shown denote.Hole.Carrier.hidden
parent_of_attribute = refl

-- nothing is found from where nothing stands
no_parent_of_nothing : parent_places document (steps.Kid 5 ∷ []) ≡ []
no_parent_of_nothing = refl

-- doc('e')/descendant::node()
descendants : axis_places Descendant document [] ≡ at_r ∷ (steps.Kid 0 ∷ steps.Kid 0 ∷ []) ∷ (steps.Kid 0 ∷ steps.Kid 1 ∷ []) ∷ at_i ∷ (steps.Kid 0 ∷ steps.Kid 2 ∷ steps.Kid 0 ∷ []) ∷ []
descendants = simp (fold-Element (List (List PlaceStep)) down_step, fold-Text (List (List PlaceStep)) down_step)

-- the first of i is its attribute, and behind this its text
first_of_i : first_place document at_i ≡ Some at_n
unfolding Rattle.xml_model.specs.declared.node.Node.TheViews.out-Node denote.Hole.Carrier.out Rattle.xml_model.specs.declared.node.Node.TheBlock.shown-the_row-Node-0 denote.Hole.Carrier.shown denote.Hole.Carrier.hidden
first_of_i = refl

behind_the_attribute : next_place document at_n ≡ Some (steps.Kid 0 ∷ steps.Kid 2 ∷ steps.Kid 0 ∷ [])
unfolding Rattle.xml_model.specs.declared.node.Node.TheViews.out-Node denote.Hole.Carrier.out Rattle.xml_model.specs.declared.node.Node.TheBlock.shown-the_row-Node-0 denote.Hole.Carrier.shown denote.Hole.Carrier.hidden
behind_the_attribute = refl

behind_the_last : next_place document at_i ≡ None
unfolding Rattle.xml_model.specs.declared.node.Node.TheViews.out-Node denote.Hole.Carrier.out Rattle.xml_model.specs.declared.node.Node.TheBlock.shown-the_row-Node-0 denote.Hole.Carrier.shown denote.Hole.Carrier.hidden
behind_the_last = refl

-- string(doc('e')/r), and an attribute's value is no part of it
string_of_document : string_value document ≡ codes "87"
string_of_document = simp (fold-Element (List ℕ) texts_step, fold-Text (List ℕ) texts_step)

-- the nodes in document order, the document being 0: r, 8, b, i, n and 7
numbers : tree_places document
    ≡ [] ∷ at_r ∷ (steps.Kid 0 ∷ steps.Kid 0 ∷ []) ∷ (steps.Kid 0 ∷ steps.Kid 1 ∷ []) ∷ at_i ∷ at_n ∷ (steps.Kid 0 ∷ steps.Kid 2 ∷ steps.Kid 0 ∷ []) ∷ []
numbers = simp (fold-Element (List (List PlaceStep)) all_step, fold-Text (List (List PlaceStep)) all_step)

-- where i stands 3 nodes behind its parent: it has 3 rows, and its text stands 2 behind it
rows_of_i : node_rows i_is_7 3
    ≡ record { told = record { kind = kind.Element; name = codes "i"; value = [] }; back = 3; size = 3 }
    ∷ record { told = record { kind = kind.Attribute; name = codes "n"; value = codes "w" }; back = 1; size = 1 }
    ∷ record { told = record { kind = kind.Text; name = []; value = codes "7" }; back = 2; size = 1 } ∷ []
rows_of_i =
    let seven = Text (codes "7") ∷ [] in
    ap (λ f. f 3) (fold-Element (ℕ → List Row) rows_step (codes "i") (n_is_w ∷ []) seven)
    ∙ ap (λ (f : ℕ → List Row). rows_step (Node-F.Element (codes "i") (n_is_w ∷ []) (f ∷ [])) 3) (fold-Text (ℕ → List Row) rows_step (codes "7"))

-- documents by their names, whatever the places
other_document : node_cmp (record { name = codes "d"; place = at_i }) (record { name = codes "e"; place = [] }) ≡ Less
other_document = refl

-- an attribute before the children of its element, and behind the element
attribute_before_child : place_cmp at_n (steps.Kid 0 ∷ steps.Kid 2 ∷ steps.Kid 0 ∷ []) ≡ Less
attribute_before_child = refl

attribute_behind_element : place_cmp at_n at_i ≡ Greater
attribute_behind_element = refl

-- the places of two lists, each once
joined_without_duplicates : union place_cmp (at_r ∷ at_n ∷ []) (at_i ∷ at_n ∷ []) ≡ at_r ∷ at_i ∷ at_n ∷ []
joined_without_duplicates = refl
