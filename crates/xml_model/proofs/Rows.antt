-- Worked rows of the definitions. Each computes, once a node is seen by its layer.
use Rattle.std.specs.Prelude.{◌≡◌, List, [], ◌∷◌, ◌++◌, Some, Ok, Err, refl, codes}
use Rattle.std.specs.declared.cmp.Ordering.TheVariants.{Less}
use Rattle.xq_ast.specs.declared.refusal.PyxRefusal.TheVariants.{AttributeLate, EndMismatch, Unclosed}
use Rattle.xml_model.specs.declared.node.Attr.{Attr}
use Rattle.xml_model.specs.declared.node.Doc.{Doc}
use Rattle.xml_model.specs.declared.node.Node.{Node}
use Rattle.xml_model.specs.declared.node.Node.TheVariants.{Element, Text, outs-Element}
use Rattle.xml_model.specs.declared.place.PlaceStep.TheVariants as steps
use Rattle.xml_model.specs.Place.{the_document, an_attribute, placed, place_cmp}
use Rattle.xml_model.specs.Pyx.{Line, read, pyx, pyx_step}
use Rattle.xml_model.proofs.Nodes.{fold-Element, fold-Text}

abbrev x_is_1 : Attr
x_is_1 = record { name = codes "x"; value = codes "1" }

abbrev the_text : List Node
the_text = Text (codes "pq" ++ 10 ∷ []) ∷ []

-- <a x="1">pq</a>, with a newline behind the q
abbrev example : Doc
example = record { kids = Element (codes "a") (x_is_1 ∷ []) the_text ∷ [] }

-- characters of neighbouring lines are one text, and a backslash before an n is a newline
reads_example : read (codes "(a" ∷ codes "Ax 1" ∷ codes "-p" ∷ codes "-q\\n" ∷ codes ")a" ∷ []) ≡ Ok example
unfolding Rattle.xml_model.specs.declared.node.Node.TheViews.out-Node denote.Hole.Carrier.out
reads_example = refl

-- its canonical lines have one line of characters
writes_example : pyx example ≡ codes "(a" ∷ codes "Ax 1" ∷ codes "-pq\\n" ∷ codes ")a" ∷ []
writes_example = rw (fold-Element (List Line) pyx_step (codes "a") (x_is_1 ∷ []) the_text, fold-Text (List Line) pyx_step (codes "pq" ++ 10 ∷ [])) refl

-- no lines are the document without nodes
reads_nothing : read [] ≡ Ok (record { kids = [] })
reads_nothing = refl

-- no attribute comes behind characters
refuses_late_attribute : read (codes "(a" ∷ codes "-t" ∷ codes "Ax 1" ∷ codes ")a" ∷ []) ≡ Err (record { why = AttributeLate; line = 3 })
refuses_late_attribute = refl

-- the innermost element ends first
refuses_other_end : read (codes "(a" ∷ codes "(b" ∷ codes ")a" ∷ []) ≡ Err (record { why = EndMismatch; line = 3 })
refuses_other_end = refl

-- an element that is open at the end is refused at the line that is not there
refuses_open_element : read (codes "(a" ∷ []) ≡ Err (record { why = Unclosed; line = 2 })
refuses_open_element = refl

-- no steps lead to the document
place_of_document : placed example [] ≡ Some (the_document example)
place_of_document = refl

-- the first attribute of the first child
place_of_attribute : placed example (steps.Kid 0 ∷ steps.Attr 0 ∷ []) ≡ Some (an_attribute x_is_1)
place_of_attribute = rw (outs-Element (codes "a") (x_is_1 ∷ []) the_text) refl

-- a node comes before what is in it
parent_first : place_cmp (steps.Kid 0 ∷ []) (steps.Kid 0 ∷ steps.Kid 1 ∷ []) ≡ Less
parent_first = refl

-- each attribute comes before each child
attribute_first : place_cmp (steps.Attr 5 ∷ []) (steps.Kid 0 ∷ []) ≡ Less
attribute_first = refl
