-- Places: lists of steps from the document, what stands at a place, and document order
-- (XQuery 1.0 and XPath 2.0 Data Model, section 2.4).
use Rattle.std.specs.Prelude.{List, [], ◌∷◌, Option, None, Some, slice_get}
use Rattle.std.specs.Option.{option_map}
use Rattle.std.specs.Ordering.{nat_cmp, ordering_then}
use Rattle.std.specs.declared.cmp.Ordering.{Ordering}
use Rattle.std.specs.declared.cmp.Ordering.TheVariants.{Less, Equal, Greater}
use Rattle.xml_model.specs.declared.node.Attr.{Attr}
use Rattle.xml_model.specs.declared.node.Doc.{Doc}
use Rattle.xml_model.specs.declared.node.Node.{Node, out-Node}
use Rattle.xml_model.specs.declared.node.Node.TheOpen.{Node-F, Element, Text, Pi}
use Rattle.xml_model.specs.declared.place.PlaceStep.{PlaceStep}
use Rattle.xml_model.specs.declared.place.PlaceStep.TheVariants as steps

-- what can stand at a place: the document, a node of a list of children, or an attribute
pub data Placed : Type 0 where
  the_document : Doc → Placed
  a_node : Node → Placed
  an_attribute : Attr → Placed

-- texts and instructions have neither attributes nor children
abbrev pub attrs_in : Node-F Node → List Attr
attrs_in (Element name attrs kids) = attrs
attrs_in (Text value) = []
attrs_in (Pi target value) = []

-- the children of an element; texts and instructions have none
abbrev pub kids_in : Node-F Node → List Node
kids_in (Element name attrs kids) = kids
kids_in (Text value) = []
kids_in (Pi target value) = []

-- the attributes of what stands at a place: those of an element, and none of anything else
abbrev pub attrs_of : Placed → List Attr
attrs_of (the_document doc) = []
attrs_of (a_node n) = attrs_in (out-Node n)
attrs_of (an_attribute a) = []

-- the children of what stands at a place: the document's nodes or those of an element, and none of an attribute
abbrev pub kids_of : Placed → List Node
kids_of (the_document doc) = doc.kids
kids_of (a_node n) = kids_in (out-Node n)
kids_of (an_attribute a) = []

-- what one step leads to: the attribute or the child with this number, if it is there
abbrev pub step_from : Placed → PlaceStep → Option Placed
step_from from (steps.Attr i) = option_map an_attribute (slice_get (attrs_of from) i)
step_from from (steps.Kid i) = option_map a_node (slice_get (kids_of from) i)

-- what stands at the end of the steps, if all of them lead somewhere
abbrev pub placed_from : List PlaceStep → Option Placed → Option Placed
placed_from [] from = from
placed_from (s ∷ more) None = None
placed_from (s ∷ more) (Some from) = placed_from more (step_from from s)

-- what stands at a place of the document, if all its steps lead somewhere
abbrev pub placed : Doc → List PlaceStep → Option Placed
placed doc place = placed_from place (Some (the_document doc))

-- an attribute comes before a child, and else the lower number first
abbrev pub step_cmp : PlaceStep → PlaceStep → Ordering
step_cmp (steps.Attr i) (steps.Attr j) = nat_cmp i j
step_cmp (steps.Attr i) (steps.Kid j) = Less
step_cmp (steps.Kid i) (steps.Attr j) = Greater
step_cmp (steps.Kid i) (steps.Kid j) = nat_cmp i j

-- a place comes before those that it begins, and else the first different step decides
abbrev pub place_cmp : List PlaceStep → List PlaceStep → Ordering
place_cmp [] [] = Equal
place_cmp [] (t ∷ q) = Less
place_cmp (s ∷ p) [] = Greater
place_cmp (s ∷ p) (t ∷ q) = ordering_then (step_cmp s t) (place_cmp p q)
