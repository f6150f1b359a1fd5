-- What the rows of a node are once its entry, and then those of all that stands in it, have been added.
use Rattle.std.proofs.Common.{◌≡◌, ℕ, ◌+◌, List, [], ◌∷◌, ◌++◌, map, length, slice_set, sym, ap, ◌∙◌, append_assoc, arith}
use Rattle.std.proofs.lemmas.List.{map-append, map-set, length-append, length-map}
use Rattle.std.proofs.Math.Seq.{set-append_seam}
use Rattle.xml_model.specs.declared.node.Attr.{Attr}
use Rattle.xml_model.specs.declared.node.Node.{Node, Text, Pi}
use Rattle.xml_model.specs.declared.node.Node.TheVariants.{Element}
use Rattle.xml_model.specs.declared.tree_rows.Entry.{Entry}
use Rattle.xml_model.specs.Nav.{told_of}
use Rattle.xml_model.specs.Numbering.{Row, attr_rows, kid_rows, node_rows}
use Rattle.xml_model.specs.Place.{a_node}
use Rattle.xml_model.specs.TreeRows.{row_of}
use Rattle.xml_model.proofs.Numbers.{rows-Element, rows-Text, rows-Pi, length-attr_rows}

-- an entry that is written anew stands before what was added behind it
written : (old P A K : List Entry) (e f : Entry) (attrs kids : List Row) (at : ℕ) → at ≡ length old → P ≡ old ++ e ∷ []
    → map row_of A ≡ map row_of P ++ attrs → map row_of K ≡ map row_of A ++ kids → map row_of (slice_set K at f) ≡ map row_of old ++ row_of f ∷ (attrs ++ kids)
written old P A K e f attrs kids at i p a k =
    map-set row_of K at f
    ∙ ap (λ rows. slice_set rows at (row_of f))
    (k ∙ ap (λ rows. rows ++ kids) (a ∙ ap (λ rows. rows ++ attrs) (ap (map row_of) p ∙ map-append row_of old (e ∷ [])))
    ∙ (append_assoc (map row_of old ++ row_of e ∷ []) attrs kids ∙ append_assoc (map row_of old) (row_of e ∷ []) (attrs ++ kids)))
    ∙ ap (λ n. slice_set (map row_of old ++ row_of e ∷ (attrs ++ kids)) n (row_of f)) (i ∙ sym (length-map old row_of))
    ∙ set-append_seam (map row_of old) (row_of e) (attrs ++ kids) (row_of f)

sized : (name : List ℕ) (attrs : List Attr) (kids : List Node) (b : ℕ)
    → record { told = told_of (a_node (Element name attrs kids)); back = b; size = 1 + (length attrs + length (kid_rows (1 + length attrs) (map node_rows kids))) }
    ∷ (attr_rows 1 attrs ++ kid_rows (1 + length attrs) (map node_rows kids))
    ≡ node_rows (Element name attrs kids) b
sized name attrs kids b =
    let inside = attr_rows 1 attrs ++ kid_rows (1 + length attrs) (map node_rows kids) in
    ap (λ n. record { told = told_of (a_node (Element name attrs kids)); back = b; size = n } ∷ inside)
    (omega (arith, length-append (attr_rows 1 attrs) (kid_rows (1 + length attrs) (map node_rows kids)), length-attr_rows 1 attrs))
    ∙ sym (rows-Element name attrs kids b)

pub element_added : (old P A K : List Entry) (e f : Entry) (name : List ℕ) (attrs : List Attr) (kids : List Node) (node : Node) (at m b : ℕ)
    → node ≡ Element name attrs kids → at ≡ length old → P ≡ old ++ e ∷ [] → m ≡ 1 + length attrs
    → map row_of A ≡ map row_of P ++ attr_rows 1 attrs → map row_of K ≡ map row_of A ++ kid_rows m (map node_rows kids)
    → row_of f ≡ record { told = told_of (a_node node); back = b; size = 1 + (length attrs + length (kid_rows m (map node_rows kids))) }
    → map row_of (slice_set K at f) ≡ map row_of old ++ node_rows node b
element_added old P A K e f name attrs kids node at m b is i p more a k r =
    written old P A K e f (attr_rows 1 attrs) (kid_rows m (map node_rows kids)) at i p a k
    ∙ ap (λ row. map row_of old ++ row ∷ (attr_rows 1 attrs ++ kid_rows m (map node_rows kids))) r
    ∙ rw (is, more) (ap (λ rows. map row_of old ++ rows) (sized name attrs kids b))

-- a text or an instruction is one row
pub text_added : (old P : List Entry) (e : Entry) (value : List ℕ) (node : Node) (b : ℕ) → node ≡ Text value → P ≡ old ++ e ∷ []
    → row_of e ≡ record { told = told_of (a_node node); back = b; size = 1 } → map row_of P ≡ map row_of old ++ node_rows node b
text_added old P e value node b is p r =
    ap (map row_of) p ∙ map-append row_of old (e ∷ []) ∙ ap (λ row. map row_of old ++ row ∷ []) r
    ∙ rw is (ap (λ rows. map row_of old ++ rows) (sym (rows-Text value b)))

pub instruction_added : (old P : List Entry) (e : Entry) (target value : List ℕ) (node : Node) (b : ℕ) → node ≡ Pi target value → P ≡ old ++ e ∷ []
    → row_of e ≡ record { told = told_of (a_node node); back = b; size = 1 } → map row_of P ≡ map row_of old ++ node_rows node b
instruction_added old P e target value node b is p r =
    ap (map row_of) p ∙ map-append row_of old (e ∷ []) ∙ ap (λ row. map row_of old ++ row ∷ []) r
    ∙ rw is (ap (λ rows. map row_of old ++ rows) (sym (rows-Pi target value b)))
