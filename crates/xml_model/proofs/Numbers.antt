-- Numbers of nodes: how many rows come before a place, and what its row is.
use Rattle.std.proofs.Common.{◌≡◌, ℕ, suc, ◌+◌, List, [], ◌∷◌, ◌++◌, map, length, refl, sym, ap, ◌∙◌, arith}
use Rattle.std.proofs.lemmas.List.{length-append}
use Rattle.xml_model.specs.declared.node.Attr.{Attr}
use Rattle.xml_model.specs.declared.node.Node.{Node, Text, Pi}
use Rattle.xml_model.specs.declared.node.Node.TheVariants.{Element, outs-Element, outs-Text, outs-Pi}
use Rattle.xml_model.specs.declared.place.PlaceStep.{PlaceStep}
use Rattle.xml_model.specs.Nav.{told_of}
use Rattle.xml_model.specs.Numbering.{Row, headed, attr_rows, kid_rows, rows_step, node_rows}
use Rattle.xml_model.specs.Place.{a_node}
use Rattle.xml_model.specs.Trees.{count_step, count_node, count_of}
use Rattle.xml_model.proofs.NodeCases.{Each, node_has}
use Rattle.xml_model.proofs.Nodes.{fold-Element, fold-Text, fold-Pi}

Ways : Type 0
Ways = List (List PlaceStep)

-- ---- lengths

pub length-attr_rows : (b : ℕ) (attrs : List Attr) → length (attr_rows b attrs) ≡ length attrs
length-attr_rows b [] = refl
length-attr_rows b (a ∷ more) = ap suc (length-attr_rows (b + 1) more)

RowsCounted : Node → Type 0
RowsCounted n = (b : ℕ) → length (node_rows n b) ≡ count_node n

length-kid_rows : (kids : List Node) → Each RowsCounted kids → (b : ℕ) → length (kid_rows b (map node_rows kids)) ≡ count_of kids
unfolding RowsCounted
length-kid_rows [] h b = refl
length-kid_rows (k ∷ kids) h b =
    length-append (node_rows k b) _ ∙ omega (arith, h.0 b, length-kid_rows kids h.1 (b + length (node_rows k b)))

pub count-Element : (name : List ℕ) (attrs : List Attr) (kids : List Node) → count_node (Element name attrs kids) ≡ 1 + length attrs + count_of kids
count-Element name attrs kids = fold-Element ℕ count_step name attrs kids

pub rows-Element : (name : List ℕ) (attrs : List Attr) (kids : List Node) (b : ℕ)
    → node_rows (Element name attrs kids) b ≡ headed (told_of (a_node (Element name attrs kids))) b (attr_rows 1 attrs ++ kid_rows (1 + length attrs) (map node_rows kids))
rows-Element name attrs kids b = ap (λ f. f b) (fold-Element (ℕ → List Row) rows_step name attrs kids) ∙ rw (outs-Element name attrs kids) refl

pub rows-Text : (value : List ℕ) (b : ℕ) → node_rows (Text value) b ≡ headed (told_of (a_node (Text value))) b []
rows-Text value b = ap (λ f. f b) (fold-Text (ℕ → List Row) rows_step value) ∙ rw (outs-Text value) refl

pub rows-Pi : (target value : List ℕ) (b : ℕ) → node_rows (Pi target value) b ≡ headed (told_of (a_node (Pi target value))) b []
rows-Pi target value b = ap (λ f. f b) (fold-Pi (ℕ → List Row) rows_step target value) ∙ rw (outs-Pi target value) refl

-- a node has as many rows as it counts
pub length-node_rows : (n : Node) (b : ℕ) → length (node_rows n b) ≡ count_node n
unfolding RowsCounted
length-node_rows n b =
    node_has RowsCounted
    (λ name attrs kids h b. ap length (rows-Element name attrs kids b)
    ∙ (ap suc (length-append (attr_rows 1 attrs) _) ∙ omega (arith, length-attr_rows 1 attrs, length-kid_rows kids h (1 + length attrs), count-Element name attrs kids)))
    (λ value b. ap length (rows-Text value b) ∙ sym (fold-Text ℕ count_step value))
    (λ target value b. ap length (rows-Pi target value b) ∙ sym (fold-Pi ℕ count_step target value)) n b

-- children have as many rows as they count
pub length-all_kid_rows : (kids : List Node) (b : ℕ) → length (kid_rows b (map node_rows kids)) ≡ count_of kids
length-all_kid_rows [] b = refl
length-all_kid_rows (k ∷ kids) b =
    length-append (node_rows k b) _ ∙ omega (arith, length-node_rows k b, length-all_kid_rows kids (b + length (node_rows k b)))

pub count-Text : (value : List ℕ) → count_node (Text value) ≡ 1
count-Text value = fold-Text ℕ count_step value

pub count-Pi : (target value : List ℕ) → count_node (Pi target value) ≡ 1
count-Pi target value = fold-Pi ℕ count_step target value
