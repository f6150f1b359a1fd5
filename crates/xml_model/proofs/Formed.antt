-- Well-formed trees as facts on their data, node by node; and that these facts and the fold of a valid document agree.
-- In `Element' name attrs s row` the row is the list of children as data, and `s` its shape.
use Rattle.std.proofs.Common.{◌≡◌, ℕ, ◌<◌, ◌≤◌, Bool, true, false, not, ◌&&◌, IsTrue, List, [], ◌∷◌, map, length, refl, sym, ap, subst, ◌∙◌, true≢false, arith}
use Rattle.std.specs.Prelude.{nat_lt}
use Rattle.std.proofs.lemmas.Bool.{ltb-true}
use Rattle.std.proofs.lemmas.Bool.Decides.{nat_tests}
use Rattle.xq_ast.specs.Names.{is_name}
use Rattle.xml_model.specs.declared.limits.TheConstants.{DEPTH_MAX, NODES_MAX, TEXT_BYTES_MAX}
use Rattle.xml_model.specs.declared.node.Attr.{Attr}
use Rattle.xml_model.specs.declared.node.Doc.{Doc}
use Rattle.xml_model.specs.declared.node.Node.{Node, Element', Text, Pi, Row_of-Node, end_of-Node, more_of-Node, items-the_row-Node, items_shown-the_row-Node-0, fold_out-Node}
use Rattle.xml_model.specs.declared.node.Node.TheVariants.{outs-Element', outs-Text, outs-Pi}
use Rattle.xml_model.specs.Trees.{count_of, bytes_of, depth_of, has_attribute}
use Rattle.xml_model.specs.Document.{IsValid, Sibling, are_attributes, are_formed, sibling_step, sibling}

-- the node is a text, by its variant
abbrev pub is_text : Node → Bool
is_text (Element' name attrs s row) = false
is_text (Text value) = true
is_text (Pi target value) = false

-- no two neighbouring texts; the first argument says whether a text stands before
abbrev pub IsApart : Bool → List Node → Type 0
IsApart after [] = Unit {0}
IsApart after (n ∷ nodes) = ((after && is_text n) ≡ false) × IsApart (is_text n) nodes

-- names of attributes, no name twice
abbrev pub AreAttributes : List Attr → Type 0
AreAttributes [] = Unit {0}
AreAttributes (a ∷ more) = IsTrue (is_name a.name) × (has_attribute a.name more ≡ false) × AreAttributes more

abbrev mutual
  -- a node whose names are names and which has no empty text, nor neighbouring ones
  pub IsFormed : Node → Type 0
  IsFormed (Element' name attrs s row) = IsTrue (is_name name) × AreAttributes attrs × IsApart false (items-the_row-Node _ row) × AreFormed row
  IsFormed (Text value) = 0 < length value
  IsFormed (Pi target value) = IsTrue (is_name target)

  -- each node of an element's row is well-formed
  pub AreFormed : {m : _} → Row_of-Node m → Type 0
  AreFormed end_of-Node = Unit {0}
  AreFormed (more_of-Node n row) = IsFormed n × AreFormed row

-- each node of the list is well-formed
abbrev pub AllFormed : List Node → Type 0
AllFormed [] = Unit {0}
AllFormed (n ∷ nodes) = IsFormed n × AllFormed nodes

-- the same of a document, with its limits
pub record HasForm (doc : Doc) : Type 0 where
  pub formed : AllFormed doc.kids
  pub apart : IsApart false doc.kids
  pub depth : depth_of doc.kids ≤ DEPTH_MAX
  pub nodes : count_of doc.kids ≤ NODES_MAX
  pub text : bytes_of doc.kids ≤ TEXT_BYTES_MAX

-- ---- tests

both : (a b : Bool) → IsTrue a → IsTrue b → IsTrue (a && b)
both true b x y = y
both false b x y = x

first : (a b : Bool) → IsTrue (a && b) → IsTrue a
first true b h = refl
first false b h = h

second : (a b : Bool) → IsTrue (a && b) → IsTrue b
second true b h = h
second false b h = absurd (true≢false (sym h))

is_not : (b : Bool) → b ≡ false → IsTrue (not b)
is_not b e = ap not e

was_not : (b : Bool) → IsTrue (not b) → b ≡ false
was_not true h = absurd (true≢false (sym h))
was_not false h = refl

-- ---- the fold at each variant

element_is : (name : List ℕ) (attrs : List Attr) (s : _) (row : Row_of-Node _)
    → sibling (Element' name attrs s row)
    ≡ record { is_text = false; is_formed = is_name name && (are_attributes attrs && are_formed false (map sibling (items-the_row-Node _ row))) }
element_is name attrs s row = fold_out-Node Sibling sibling_step (Element' name attrs s row)
    ∙ rw (outs-Element' name attrs s row, items_shown-the_row-Node-0 s row) refl

text_is : (value : List ℕ) → sibling (Text value) ≡ record { is_text = true; is_formed = nat_lt 0 (length value) }
text_is value = fold_out-Node Sibling sibling_step (Text value) ∙ rw (outs-Text value) refl

instruction_is : (target value : List ℕ) → sibling (Pi target value) ≡ record { is_text = false; is_formed = is_name target }
instruction_is target value = fold_out-Node Sibling sibling_step (Pi target value) ∙ rw (outs-Pi target value) refl

-- whether a node is a text, among its siblings and by its variant
pub text_same : (n : Node) → (sibling n).is_text ≡ is_text n
text_same (Element' name attrs s row) = ap (λ x. x.is_text) (element_is name attrs s row)
text_same (Text value) = ap (λ x. x.is_text) (text_is value)
text_same (Pi target value) = ap (λ x. x.is_text) (instruction_is target value)

-- ---- attributes

-- attributes with names, no name twice, pass the test of attributes
pub attributes_hold : (attrs : List Attr) → AreAttributes attrs → IsTrue (are_attributes attrs)
attributes_hold [] h = refl
attributes_hold (a ∷ more) h =
    both (is_name a.name) _ h.0 (both (not (has_attribute a.name more)) (are_attributes more) (is_not _ h.1) (attributes_hold more h.2))

-- attributes that pass the test have names, no name twice
pub attributes_of : (attrs : List Attr) → IsTrue (are_attributes attrs) → AreAttributes attrs
attributes_of [] h = tt
attributes_of (a ∷ more) h =
    let rest = second (is_name a.name) _ h in (
      first (is_name a.name) _ h,
      was_not _ (first (not (has_attribute a.name more)) (are_attributes more) rest),
      attributes_of more
          (second (not (has_attribute a.name more)) (are_attributes more) rest),
    )

-- ---- one sibling before the others

list_holds : (after : Bool) (n : Node) (more : List Node) → (after && is_text n) ≡ false → IsTrue (sibling n).is_formed
    → IsTrue (are_formed (is_text n) (map sibling more)) → IsTrue (are_formed after (map sibling (n ∷ more)))
list_holds after n more apart formed rest =
    both (not (after && (sibling n).is_text)) _ (is_not _ (ap (λ t. after && t) (text_same n) ∙ apart))
    (both (sibling n).is_formed _ formed (subst (λ t. IsTrue (are_formed t (map sibling more))) (sym (text_same n)) rest))

list_apart : (after : Bool) (n : Node) (more : List Node) → IsTrue (are_formed after (map sibling (n ∷ more))) → (after && is_text n) ≡ false
list_apart after n more h = ap (λ t. after && t) (sym (text_same n)) ∙ was_not _ (first (not (after && (sibling n).is_text)) _ h)

list_first : (after : Bool) (n : Node) (more : List Node) → IsTrue (are_formed after (map sibling (n ∷ more))) → IsTrue (sibling n).is_formed
list_first after n more h = first (sibling n).is_formed _ (second (not (after && (sibling n).is_text)) _ h)

list_rest : (after : Bool) (n : Node) (more : List Node) → IsTrue (are_formed after (map sibling (n ∷ more)))
    → IsTrue (are_formed (is_text n) (map sibling more))
list_rest after n more h =
    subst (λ t. IsTrue (are_formed t (map sibling more))) (text_same n) (second (sibling n).is_formed _ (second (not (after && (sibling n).is_text)) _ h))

-- ---- trees

mutual
  -- a well-formed node passes the test
  pub node_holds : (n : Node) → IsFormed n → IsTrue (sibling n).is_formed
  node_holds (Element' name attrs s row) h =
      subst (λ x. IsTrue x.is_formed) (sym (element_is name attrs s row))
      (both (is_name name) _ h.0 (both (are_attributes attrs) _ (attributes_hold attrs h.1) (row_holds _ false row h.2 h.3)))
  node_holds (Text value) h = subst (λ x. IsTrue x.is_formed) (sym (text_is value)) (grind (arith, nat_tests))
  node_holds (Pi target value) h = subst (λ x. IsTrue x.is_formed) (sym (instruction_is target value)) h

  row_holds : (m : _) (after : Bool) (row : Row_of-Node m) → IsApart after (items-the_row-Node m row) → AreFormed row
      → IsTrue (are_formed after (map sibling (items-the_row-Node m row)))
  row_holds _ after end_of-Node apart h = refl
  row_holds _ after (more_of-Node n row) apart h =
      list_holds after n (items-the_row-Node _ row) apart.0 (node_holds n h.0) (row_holds _ (is_text n) row apart.1 h.1)

mutual
  -- a node that passes the test is well-formed
  pub node_of : (n : Node) → IsTrue (sibling n).is_formed → IsFormed n
  node_of (Element' name attrs s row) h =
      let all = subst (λ x. IsTrue x.is_formed) (element_is name attrs s row) h in
      let rest = second (is_name name) _ all in
      let kids = second (are_attributes attrs) _ rest in
      (first (is_name name) _ all, attributes_of attrs (first (are_attributes attrs) _ rest), row_apart _ false row kids, row_of _ false row kids)
  node_of (Text value) h = ltb-true 0 (length value) (subst (λ x. IsTrue x.is_formed) (text_is value) h)
  node_of (Pi target value) h = subst (λ x. IsTrue x.is_formed) (instruction_is target value) h

  row_apart : (m : _) (after : Bool) (row : Row_of-Node m) → IsTrue (are_formed after (map sibling (items-the_row-Node m row)))
      → IsApart after (items-the_row-Node m row)
  row_apart _ after end_of-Node h = tt
  row_apart _ after (more_of-Node n row) h =
      (list_apart after n (items-the_row-Node _ row) h, row_apart _ (is_text n) row (list_rest after n (items-the_row-Node _ row) h))

  row_of : (m : _) (after : Bool) (row : Row_of-Node m) → IsTrue (are_formed after (map sibling (items-the_row-Node m row))) → AreFormed row
  row_of _ after end_of-Node h = tt
  row_of _ after (more_of-Node n row) h =
      (node_of n (list_first after n (items-the_row-Node _ row) h), row_of _ (is_text n) row (list_rest after n (items-the_row-Node _ row) h))

-- so do well-formed nodes, no two neighbours of which are texts
pub all_hold : (after : Bool) (nodes : List Node) → IsApart after nodes → AllFormed nodes → IsTrue (are_formed after (map sibling nodes))
all_hold after [] apart h = refl
all_hold after (n ∷ nodes) apart h = list_holds after n nodes apart.0 (node_holds n h.0) (all_hold (is_text n) nodes apart.1 h.1)

all_apart : (after : Bool) (nodes : List Node) → IsTrue (are_formed after (map sibling nodes)) → IsApart after nodes
all_apart after [] h = tt
all_apart after (n ∷ nodes) h = (list_apart after n nodes h, all_apart (is_text n) nodes (list_rest after n nodes h))

all_of : (after : Bool) (nodes : List Node) → IsTrue (are_formed after (map sibling nodes)) → AllFormed nodes
all_of after [] h = tt
all_of after (n ∷ nodes) h = (node_of n (list_first after n nodes h), all_of (is_text n) nodes (list_rest after n nodes h))

-- a document with this form is valid
pub form_is_valid : (doc : Doc) → HasForm doc → IsValid doc
form_is_valid doc h = record { formed = all_hold false doc.kids h.apart h.formed; depth = h.depth; nodes = h.nodes; text = h.text }

-- a valid document has this form
pub valid_has_form : (doc : Doc) → IsValid doc → HasForm doc
valid_has_form doc h = record {
  formed = all_of false doc.kids h.formed;
  apart = all_apart false doc.kids h.formed;
  depth = h.depth;
  nodes = h.nodes;
  text =
      h.text;
}
