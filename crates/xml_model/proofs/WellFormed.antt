-- Well-formed trees, as facts on their data: what stands in them is well-formed too, and the lines of what stands in them have no newlines.
use Rattle.std.proofs.Common.{◌≡◌, ℕ, zero, suc, Bool, true, false, ◌||◌, IsTrue, IfSome, ◌&&◌, List, [], ◌∷◌, Option, Some, None, refl, sym, subst, ◌∙◌}
use Rattle.std.specs.List.{slice_get}
use Rattle.std.specs.Option.{option_map}
use Rattle.std.specs.Fmt.{signed_decimal}
use Rattle.std.specs.FinMap as forests
use Rattle.xq_ast.specs.Names.{is_name}
use Rattle.xml_model.specs.declared.node.Attr.{Attr}
use Rattle.xml_model.specs.declared.node.Doc.{Doc}
use Rattle.xml_model.specs.declared.node.Node.{Node, Element', Text, Pi, Row_of-Node, end_of-Node, more_of-Node, items-the_row-Node, items_shown-the_row-Node-0, out-Node}
use Rattle.xml_model.specs.declared.node.Node.TheVariants.{outs-Element', outs-Text, outs-Pi}
use Rattle.xml_model.specs.declared.place.PlaceStep.{PlaceStep}
use Rattle.xml_model.specs.declared.place.PlaceStep.TheVariants as steps
use Rattle.xml_model.specs.Atoms.{boolean_text}
use Rattle.xml_model.specs.Document.{IsValid, sibling}
use Rattle.xml_model.specs.Forest.{Forest, IsForest}
use Rattle.xml_model.specs.ItemLines.{placed_lines, item_lines, lines_of}
use Rattle.xml_model.specs.Items.{Documents, Tree, stored, constructed, NodeAt, Item, Items, node, string, integer, boolean, Made, tree_root, node_at}
use Rattle.xml_model.specs.Place.{Placed, the_document, a_node, an_attribute, attrs_in, kids_in, attrs_of, kids_of, step_from, placed_from}
use Rattle.xml_model.specs.Pyx.{ArePlain, pyx_node}
use Rattle.xml_model.specs.WellFormed.{is_well_formed, are_well_formed}
use Rattle.xml_model.proofs.Alike.{Each}
use Rattle.xml_model.proofs.Formed.{IsFormed, AreFormed, AllFormed, IsApart, AreAttributes, is_text, text_same, node_holds, all_hold, valid_has_form}
use Rattle.xml_model.proofs.Validity.{found_is_valid}
use Rattle.xml_model.proofs.TextAgain.{ArePlain-append, plain_value, plain_text, plain_attribute, plain_node, plain_list}

-- the attribute's name is a name
abbrev pub IsNamed : Attr → Type 0
IsNamed a = IsTrue (is_name a.name)

-- what stands at a place is well-formed; a text may be empty where it stands alone
abbrev pub IsWellFormed : Placed → Type 0
IsWellFormed (the_document doc) = AllFormed doc.kids × IsApart false doc.kids
IsWellFormed (a_node n) = is_text n ≡ false → IsFormed n
IsWellFormed (an_attribute a) = IsNamed a

-- ---- the test

alone : (t formed : Bool) → (t ≡ false → formed ≡ true) → (t || formed) ≡ true
alone true formed h = refl
alone false formed h = h refl

passes : (root : Placed) → IsWellFormed root → is_well_formed root ≡ true
passes (the_document doc) w = all_hold false doc.kids w.1 w.0
passes (a_node n) w = alone (sibling n).is_text (sibling n).is_formed (λ e. node_holds n (w (sym (text_same n) ∙ e)))
passes (an_attribute a) w = w

-- roots that are well-formed pass the test
pub all_pass : (made : Made) → Each IsWellFormed made → IsTrue (are_well_formed made)
all_pass [] w = refl
all_pass (root ∷ made) w = λ i. passes root w.0 i && all_pass made w.1 i

-- ---- what stands in them

names_of : (attrs : List Attr) → AreAttributes attrs → Each IsNamed attrs
names_of [] are = tt
names_of (a ∷ attrs) are = (are.0, names_of attrs are.2)

in_row : (m : _) (row : Row_of-Node m) → AreFormed row → AllFormed (items-the_row-Node m row)
in_row _ end_of-Node formed = tt
in_row _ (more_of-Node n row) formed = (formed.0, in_row _ row formed.1)

attrs_in_node : (n : Node) → IsWellFormed (a_node n) → Each IsNamed (attrs_in (out-Node n))
attrs_in_node (Element' name attrs s row) w = subst (λ l. Each IsNamed (attrs_in l)) (sym (outs-Element' name attrs s row)) (names_of attrs (w refl).1)
attrs_in_node (Text value) w = subst (λ l. Each IsNamed (attrs_in l)) (sym (outs-Text value)) tt
attrs_in_node (Pi target value) w = subst (λ l. Each IsNamed (attrs_in l)) (sym (outs-Pi target value)) tt

kids_in_node : (n : Node) → IsWellFormed (a_node n) → AllFormed (kids_in (out-Node n))
kids_in_node (Element' name attrs s row) w =
    subst (λ l. AllFormed (kids_in l)) (sym (outs-Element' name attrs s row)) (subst AllFormed (sym (items_shown-the_row-Node-0 s row)) (in_row _ row (w refl).3))
kids_in_node (Text value) w = subst (λ l. AllFormed (kids_in l)) (sym (outs-Text value)) tt
kids_in_node (Pi target value) w = subst (λ l. AllFormed (kids_in l)) (sym (outs-Pi target value)) tt

attrs_within : (from : Placed) → IsWellFormed from → Each IsNamed (attrs_of from)
attrs_within (the_document doc) w = tt
attrs_within (a_node n) w = attrs_in_node n w
attrs_within (an_attribute a) w = tt

kids_within : (from : Placed) → IsWellFormed from → AllFormed (kids_of from)
kids_within (the_document doc) w = w.0
kids_within (a_node n) w = kids_in_node n w
kids_within (an_attribute a) w = tt

an_attribute_at : (attrs : List Attr) (i : ℕ) → Each IsNamed attrs → IfSome (option_map an_attribute (slice_get attrs i)) IsWellFormed
an_attribute_at [] i named = tt
an_attribute_at (a ∷ attrs) zero named = named.0
an_attribute_at (a ∷ attrs) (suc i) named = an_attribute_at attrs i named.1

a_kid_at : (kids : List Node) (i : ℕ) → AllFormed kids → IfSome (option_map a_node (slice_get kids i)) IsWellFormed
a_kid_at [] i formed = tt
a_kid_at (n ∷ kids) zero formed = λ _. formed.0
a_kid_at (n ∷ kids) (suc i) formed = a_kid_at kids i formed.1

at_step : (from : Placed) (s : PlaceStep) → IsWellFormed from → IfSome (step_from from s) IsWellFormed
at_step from (steps.Attr i) w = an_attribute_at (attrs_of from) i (attrs_within from w)
at_step from (steps.Kid i) w = a_kid_at (kids_of from) i (kids_within from w)

at_place : (place : List PlaceStep) (from : Option Placed) → IfSome from IsWellFormed → IfSome (placed_from place from) IsWellFormed
at_place [] from w = w
at_place (s ∷ place) None w = tt
at_place (s ∷ place) (Some from) w = at_place place (step_from from s) (at_step from s w)

-- what a look-up finds is well-formed
abbrev pub AreDocuments : Documents → Type 0
AreDocuments docs = (name : List ℕ) → IfSome (option_map the_document (docs name)) IsWellFormed

document_at : (o : Option Doc) → IfSome o IsValid → IfSome (option_map the_document o) IsWellFormed
document_at None valid = tt
document_at (Some doc) valid = let form = valid_has_form doc valid in (form.formed, form.apart)

-- that of a forest finds such documents
pub forest_documents : (F : Forest) → IsForest F → AreDocuments (forests.get F)
forest_documents F forest name = document_at (forests.get F name) (found_is_valid F name (forests.get F name) forest refl)

number_at : (made : Made) (number : ℕ) → Each IsWellFormed made → IfSome (slice_get made number) IsWellFormed
number_at [] number w = tt
number_at (root ∷ made) zero w = w.0
number_at (root ∷ made) (suc number) w = number_at made number w.1

root_at : (docs : Documents) (made : Made) (t : Tree) → AreDocuments docs → Each IsWellFormed made → IfSome (tree_root docs made t) IsWellFormed
root_at docs made (stored name) d w = d name
root_at docs made (constructed number) d w = number_at made number w

-- where documents and trees are well-formed, so is what stands at a node
pub well_at : (docs : Documents) (made : Made) (n : NodeAt) → AreDocuments docs → Each IsWellFormed made → IfSome (node_at docs made n) IsWellFormed
well_at docs made n d w = at_place n.place (tree_root docs made n.tree) (root_at docs made n.tree d w)

-- ---- lines

plain_alone : (n : Node) → IsWellFormed (a_node n) → ArePlain (pyx_node n)
plain_alone (Element' name attrs s row) w = plain_node (Element' name attrs s row) (w refl)
plain_alone (Text value) w = plain_text value
plain_alone (Pi target value) w = plain_node (Pi target value) (w refl)

plain_placed : (there : Option Placed) → IfSome there IsWellFormed → ArePlain (placed_lines there)
plain_placed None w = tt
plain_placed (Some (the_document doc)) w = plain_list doc.kids w.0
plain_placed (Some (a_node n)) w = plain_alone n w
plain_placed (Some (an_attribute a)) w = (plain_attribute a w, tt)

module _ (docs : Documents) (made : Made) (d : AreDocuments docs) (w : Each IsWellFormed made) where
  plain_item : (item : Item) → ArePlain (item_lines docs made item)
  plain_item (node n) = plain_placed (node_at docs made n) (well_at docs made n d w)
  plain_item (string text) = ((refl, plain_value text), tt)
  plain_item (integer n) = ((refl, plain_value (signed_decimal n)), tt)
  plain_item (boolean b) = ((refl, plain_value (boolean_text b)), tt)

  -- where documents and trees are well-formed, the lines of items have no newlines
  pub plain_lines : (items : Items) → ArePlain (lines_of docs made items)
  plain_lines [] = tt
  plain_lines (item ∷ items) = ArePlain-append (item_lines docs made item) (lines_of docs made items) (plain_item item) (plain_lines items)
