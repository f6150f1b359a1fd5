-- The nodes of a tree as rows, numbered in document order from 0, which is its root: a document, or a node that a
-- query made.
use Rattle.std.specs.Prelude.{ℕ, ◌+◌, List, [], ◌∷◌, ◌++◌, map, length, slice_get, unwrap_or}
use Rattle.xml_model.specs.declared.node.Attr.{Attr}
use Rattle.xml_model.specs.declared.node.Node.{Node}
use Rattle.xml_model.specs.declared.node.Node.TheOpen.{Node-F, Element, Text, Pi}
use Rattle.xml_model.specs.declared.node.Node.TheFolds.{fold-Node}
use Rattle.xml_model.specs.declared.place.PlaceStep.{PlaceStep}
use Rattle.xml_model.specs.declared.place.PlaceStep.TheVariants as steps
use Rattle.xml_model.specs.Axes.{one_step_each, into_each}
use Rattle.xml_model.specs.Nav.{Told, told_in, told_of, of_document}
use Rattle.xml_model.specs.Trees.{count_node, count_of}
use Rattle.xml_model.specs.Place.{Placed, the_document, a_node, an_attribute}

-- A node: what it tells, how far before it its parent stands (a root: 0), and how many rows it has with all
-- that stands in it. So the row behind its last one is its next sibling, where the parent has as many rows.
pub record Row : Type 0 where
  pub told : Told
  pub back : ℕ
  pub size : ℕ

-- the row of a node, and the rows in it
abbrev pub headed : Told → ℕ → List Row → List Row
headed told back inside = record { told = told; back = back; size = length inside + 1 } ∷ inside

abbrev pub attribute_row : Attr → ℕ → Row
attribute_row a back = record { told = told_of (an_attribute a); back = back; size = 1 }

-- those of attributes, the first of them so far behind its element
abbrev pub attr_rows : ℕ → List Attr → List Row
attr_rows back [] = []
attr_rows back (a ∷ more) = attribute_row a back ∷ attr_rows (back + 1) more

-- those of children, the first of them so far behind its parent
abbrev pub kid_rows : ℕ → List (ℕ → List Row) → List Row
kid_rows back [] = []
kid_rows back (kid ∷ more) = kid back ++ kid_rows (back + length (kid back)) more

abbrev pub rows_step : Node-F (ℕ → List Row) → ℕ → List Row
rows_step (Element name attrs kids) back = headed (told_in (Element name attrs kids)) back (attr_rows 1 attrs ++ kid_rows (1 + length attrs) kids)
rows_step (Text value) back = headed (told_in {X = ℕ} (Text value)) back []
rows_step (Pi target value) back = headed (told_in {X = ℕ} (Pi target value)) back []

-- the rows of a node that stands so far behind its parent
abbrev pub node_rows : Node → ℕ → List Row
node_rows = fold-Node (ℕ → List Row) rows_step

-- how many rows a tree has
abbrev pub tree_size : Placed → ℕ
tree_size (the_document doc) = 1 + count_of doc.kids
tree_size (a_node n) = count_node n
tree_size (an_attribute a) = 1

-- the rows of a tree
abbrev pub tree_rows : Placed → List Row
tree_rows (the_document doc) = headed of_document 0 (kid_rows 1 (map node_rows doc.kids))
tree_rows (a_node n) = node_rows n 0
tree_rows (an_attribute a) = attribute_row a 0 ∷ []

-- the ways to a node and to all in it, attributes among them, in document order
abbrev pub all_step : Node-F (List (List PlaceStep)) → List (List PlaceStep)
all_step (Element name attrs kids) = [] ∷ (one_step_each steps.Attr 0 attrs ++ into_each 0 kids)
all_step (Text value) = [] ∷ []
all_step (Pi target value) = [] ∷ []

abbrev pub all_ways : Node → List (List PlaceStep)
all_ways = fold-Node (List (List PlaceStep)) all_step

-- the places of a tree in document order
abbrev pub tree_places : Placed → List (List PlaceStep)
tree_places (the_document doc) = [] ∷ into_each 0 (map all_ways doc.kids)
tree_places (a_node n) = all_ways n
tree_places (an_attribute a) = [] ∷ []

-- The place that a number stands for. One of no node stands for a child that the root does not have.
abbrev pub place_of_number : Placed → ℕ → List PlaceStep
place_of_number root n = unwrap_or (slice_get (tree_places root) n) (steps.Kid n ∷ [])
