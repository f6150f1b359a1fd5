-- The number of a place is how many rows come before it. What stands at the place has its row, and the place itself its
-- turn in document order, at this number.
use Rattle.std.proofs.Common.{◌≡◌, ℕ, ◌+◌, List, [], ◌∷◌, ◌++◌, map, length, refl, ap, ◌∙◌, arith}
use Rattle.std.proofs.lemmas.List.{length-append}
use Rattle.xml_model.specs.declared.node.Attr.{Attr}
use Rattle.xml_model.specs.declared.node.Node.{Node, Text, Pi}
use Rattle.xml_model.specs.declared.node.Node.TheOpen.{Node-F}
use Rattle.xml_model.specs.declared.node.Node.TheVariants.{Element, outs-Element, outs-Text, outs-Pi}
use Rattle.xml_model.specs.declared.place.PlaceStep.{PlaceStep}
use Rattle.xml_model.specs.declared.place.PlaceStep.TheVariants as steps
use Rattle.xml_model.specs.Axes.{one_step_each, into_each}
use Rattle.xml_model.specs.Nav.{told_in, told_of, of_document}
use Rattle.xml_model.specs.Numbering.{Row, headed, attr_rows, kid_rows, rows_step, node_rows, all_step, all_ways, tree_size, tree_places}
use Rattle.xml_model.specs.Place.{Placed, the_document, a_node, an_attribute, attrs_of, kids_of}
use Rattle.xml_model.specs.Trees.{count_step, count_node, count_of}
use Rattle.xml_model.proofs.NodeCases.{node_has}
use Rattle.xml_model.proofs.Nodes.{fold-Element, fold-Text, fold-Pi}
use Rattle.xml_model.proofs.Numbers.{length-all_kid_rows, length-attr_rows, count-Element}

-- ---- what holds of each root: how many rows it has, which they are, and the ways to them

abbrev pub size : Placed → ℕ
size = tree_size

abbrev pub rows : Placed → ℕ → List Row
rows (the_document doc) b = headed of_document b (kid_rows 1 (map node_rows doc.kids))
rows (a_node n) b = node_rows n b
rows (an_attribute a) b = record { told = told_of (an_attribute a); back = b; size = 1 } ∷ []

abbrev pub ways : Placed → List (List PlaceStep)
ways = tree_places

-- the rows and the ways in it
abbrev pub inner_rows : Placed → List Row
inner_rows from = attr_rows 1 (attrs_of from) ++ kid_rows (1 + length (attrs_of from)) (map node_rows (kids_of from))

abbrev pub inner_ways : Placed → List (List PlaceStep)
inner_ways from = one_step_each steps.Attr 0 (attrs_of from) ++ into_each 0 (map all_ways (kids_of from))

abbrev pub row : Placed → ℕ → Row
row from b = record { told = told_of from; back = b; size = size from }

-- it has a row, and then those of its attributes and children
pub record Root (from : Placed) : Type 0 where
  pub sized : size from ≡ 1 + (length (attrs_of from) + count_of (kids_of from))
  pub rows_are : (b : ℕ) → rows from b ≡ row from b ∷ inner_rows from
  pub ways_are : ways from ≡ [] ∷ inner_ways from

length-inner_rows : (from : Placed) → length (inner_rows from) ≡ length (attrs_of from) + count_of (kids_of from)
length-inner_rows from =
    length-append (attr_rows 1 (attrs_of from)) _
    ∙ omega (arith, length-attr_rows 1 (attrs_of from), length-all_kid_rows (kids_of from) (1 + length (attrs_of from)))

-- by the layer of a node
root_of_element : (name : List ℕ) (attrs : List Attr) (kids : List Node) → Root (a_node (Element name attrs kids))
root_of_element name attrs kids = record {
  sized = rw (outs-Element name attrs kids) (omega (arith, count-Element name attrs kids));
  rows_are = λ b. rw (outs-Element name attrs kids) (rows_there b);
  ways_are = rw (outs-Element name attrs kids) (fold-Element (List (List PlaceStep)) all_step name attrs kids);
}
  where
    rows_there : (b : ℕ) → node_rows (Element name attrs kids) b
        ≡ record { told = told_in {X = Node} (Node-F.Element name attrs kids); back = b; size = count_node (Element name attrs kids) }
        ∷ (attr_rows 1 attrs ++ kid_rows (1 + length attrs) (map node_rows kids))
    rows_there b =
        let inside = attr_rows 1 attrs ++ kid_rows (1 + length attrs) (map node_rows kids) in
        ap (λ f. f b) (fold-Element (ℕ → List Row) rows_step name attrs kids)
        ∙ ap (λ n. record { told = told_in {X = Node} (Node-F.Element name attrs kids); back = b; size = n } ∷ inside)
        (omega (arith, length-append (attr_rows 1 attrs) (kid_rows (1 + length attrs) (map node_rows kids)), length-attr_rows 1 attrs, length-all_kid_rows kids (1 + length attrs), count-Element name attrs kids))

root_of_text : (value : List ℕ) → Root (a_node (Text value))
root_of_text value = record {
  sized = rw (outs-Text value) (fold-Text ℕ count_step value);
  rows_are = λ b. rw (outs-Text value, fold-Text ℕ count_step value) (ap (λ f. f b) (fold-Text (ℕ → List Row) rows_step value));
  ways_are = rw (outs-Text value) (fold-Text (List (List PlaceStep)) all_step value);
}

root_of_instruction : (target value : List ℕ) → Root (a_node (Pi target value))
root_of_instruction target value = record {
  sized = rw (outs-Pi target value) (fold-Pi ℕ count_step target value);
  rows_are = λ b. rw (outs-Pi target value, fold-Pi ℕ count_step target value) (ap (λ f. f b) (fold-Pi (ℕ → List Row) rows_step target value));
  ways_are = rw (outs-Pi target value) (fold-Pi (List (List PlaceStep)) all_step target value);
}

pub root : (from : Placed) → Root from
root (the_document doc) = record {
  sized = omega arith;
  rows_are = λ b. ap (λ n. record { told = of_document; back = b; size = n } ∷ kid_rows 1 (map node_rows doc.kids)) (omega (arith, length-all_kid_rows doc.kids 1));
  ways_are = refl;
}
root (a_node n) = node_has (λ n. Root (a_node n)) (λ name attrs kids _. root_of_element name attrs kids) root_of_text root_of_instruction n
root (an_attribute a) = record { sized = refl; rows_are = λ b. refl; ways_are = refl }
