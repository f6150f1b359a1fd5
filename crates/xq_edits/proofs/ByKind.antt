-- What may be done to a node, by its kind, and which node an attribute is of.
use Rattle.std.proofs.Common.{◌≡◌, ℕ, true, false, List, [], Option, Some, None, Result, Ok, Err, IsTrue, refl, sym, ap, ◌∙◌}
use Rattle.std.specs.Prelude.{is_some, unwrap_or, if◌then◌else◌}
use Rattle.std.specs.FinMap as forests
use Rattle.std.specs.Option.{option_and_then}
use Rattle.std.proofs.lemmas.Bool.{true≢false, false≢true}
use Rattle.xq_ast.specs.declared.code.Code.{Code}
use Rattle.xq_ast.specs.declared.code.Code.TheVariants.{XPTY0004}
use Rattle.xml_model.specs.declared.edit.EditKind.{EditKind}
use Rattle.xml_model.specs.declared.edit.EditKind.TheVariants as edit
use Rattle.xml_model.specs.declared.node.Node.{Node, out-Node}
use Rattle.xml_model.specs.declared.node.Node.TheOpen.{Node-F, Element, Text, Pi}
use Rattle.xml_model.specs.declared.place.PlaceStep.{PlaceStep}
use Rattle.xml_model.specs.Edits as edits
use Rattle.xml_model.specs.Forest.{Forest}
use Rattle.xml_model.specs.Items.{◌>>?◌}
use Rattle.xml_model.specs.Nav.{Stored, standing, tree_of, stored_at, told_at, told_in}
use Rattle.xml_model.specs.Nodes.{no_nodes}
use Rattle.xml_model.specs.Place.{Placed, the_document, a_node, an_attribute, placed_from}
use Rattle.xml_model.proofs.Numbered.{placed_nowhere}
use Rattle.xq_edits.specs.Inside.{IsThere}
use Rattle.xq_nodes.specs.Walks.{is_of_attributes}
use Rattle.xq_edits.specs.Kinds.{is_of_documents, is_of_names}

from_root : (p : List PlaceStep) (o : Option Placed) → placed_from p o ≡ option_and_then (λ root. standing root p) o
from_root p None = placed_nowhere p
from_root p (Some root) = refl

-- what stands at a node, for updates and for navigation
pub standing_is : (F : Forest) (node : Stored) → edits.standing_at (forests.get F) node ≡ unwrap_or (stored_at F node) no_nodes
standing_is F node = ap (λ o. unwrap_or o no_nodes) (from_root node.place (tree_of F node))

no_document : (x : Node-F Node) → is_of_documents (told_in x).kind ≡ false
no_document (Element name attrs kids) = refl
no_document (Text value) = refl
no_document (Pi target value) = refl

refused_at : (what : EditKind) (o : Option Placed) → is_of_documents (told_at o).kind ≡ true → edits.unless_document what (unwrap_or o no_nodes) ≡ Err XPTY0004
refused_at what None e = refl
refused_at what (Some (the_document doc)) e = refl
refused_at what (Some (a_node n)) e = absurd (false≢true (sym (no_document (out-Node n)) ∙ e))
refused_at what (Some (an_attribute a)) e = absurd (false≢true e)

there_at : (o : Option Placed) → is_of_documents (told_at o).kind ≡ false → IsTrue (is_some o)
there_at None e = absurd (true≢false e)
there_at (Some it) e = refl

module _ (F : Forest) (node : Stored) (what : EditKind) where
  -- nothing is done in place of a document
  pub document_refused : is_of_documents (told_at (stored_at F node)).kind ≡ true → edits.unless_document what (edits.standing_at (forests.get F) node) ≡
      Err XPTY0004
  document_refused e = ap (edits.unless_document what) (standing_is F node) ∙ refused_at what (stored_at F node) e

-- what is of another kind than a document is there
pub other_there : (F : Forest) (node : Stored) → is_of_documents (told_at (stored_at F node)).kind ≡ false → IsThere F node
other_there F node e = there_at (stored_at F node) e

-- ---- what comes in place of a node

abbrev pub put_attributes : edits.Content → Result EditKind Code
put_attributes c = edits.with_attributes_alone c >>? (λ attrs. Ok (edit.Put attrs []))

abbrev pub put_nodes : edits.Content → Result EditKind Code
put_nodes c = edits.without_attributes c >>? (λ kids. Ok (edit.Put [] kids))

document_at : (c : edits.Content) (o : Option Placed) → is_of_documents (told_at o).kind ≡ true → edits.in_place_of c (unwrap_or o no_nodes) ≡ Err XPTY0004
document_at c None e = refl
document_at c (Some (the_document doc)) e = refl
document_at c (Some (a_node n)) e = absurd (false≢true (sym (no_document (out-Node n)) ∙ e))
document_at c (Some (an_attribute a)) e = absurd (false≢true e)

layer_no_attribute : (x : Node-F Node) → is_of_attributes (told_in x).kind ≡ false
layer_no_attribute (Element name attrs kids) = refl
layer_no_attribute (Text value) = refl
layer_no_attribute (Pi target value) = refl

attribute_at : (c : edits.Content) (o : Option Placed) → is_of_attributes (told_at o).kind ≡ true
    → edits.in_place_of c (unwrap_or o no_nodes) ≡ put_attributes c
attribute_at c None e = absurd (false≢true e)
attribute_at c (Some (the_document doc)) e = absurd (false≢true e)
attribute_at c (Some (a_node n)) e = absurd (false≢true (sym (layer_no_attribute (out-Node n)) ∙ e))
attribute_at c (Some (an_attribute a)) e = refl

node_at : (c : edits.Content) (o : Option Placed) → is_of_documents (told_at o).kind ≡ false → is_of_attributes (told_at o).kind ≡ false
    → edits.in_place_of c (unwrap_or o no_nodes) ≡ put_nodes c
node_at c None d e = absurd (true≢false d)
node_at c (Some (the_document doc)) d e = absurd (true≢false d)
node_at c (Some (a_node n)) d e = refl
node_at c (Some (an_attribute a)) d e = absurd (true≢false e)

layer_named : (name : List ℕ) (x : Node-F Node) → edits.renamed_layer name x ≡ (if is_of_names (told_in x).kind then Ok (edit.Rename name) else Err XPTY0004)
layer_named name (Element old attrs kids) = refl
layer_named name (Text value) = refl
layer_named name (Pi target value) = refl

named_at : (name : List ℕ) (o : Option Placed) → edits.renamed name (unwrap_or o no_nodes) ≡
    (if is_of_names (told_at o).kind then Ok (edit.Rename name) else Err XPTY0004)
named_at name None = refl
named_at name (Some (the_document doc)) = refl
named_at name (Some (a_node n)) = layer_named name (out-Node n)
named_at name (Some (an_attribute a)) = refl

module _ (F : Forest) (node : Stored) (c : edits.Content) where
  -- in place of a document nothing comes
  pub in_place_of_document : is_of_documents (told_at (stored_at F node)).kind ≡ true → edits.in_place_of c (edits.standing_at (forests.get F) node) ≡ Err
      XPTY0004
  in_place_of_document e = ap (edits.in_place_of c) (standing_is F node) ∙ document_at c (stored_at F node) e

  -- in place of an attribute come attributes
  pub in_place_of_attribute : is_of_attributes (told_at (stored_at F node)).kind ≡ true → edits.in_place_of c (edits.standing_at (forests.get F) node) ≡
      put_attributes c
  in_place_of_attribute e = ap (edits.in_place_of c) (standing_is F node) ∙ attribute_at c (stored_at F node) e

  -- in place of any other node come nodes
  pub in_place_of_node : is_of_documents (told_at (stored_at F node)).kind ≡ false → is_of_attributes (told_at (stored_at F node)).kind ≡ false
      → edits.in_place_of c (edits.standing_at (forests.get F) node) ≡ put_nodes c
  in_place_of_node d e = ap (edits.in_place_of c) (standing_is F node) ∙ node_at c (stored_at F node) d e

-- a node gets a name by its kind
pub renamed_is : (F : Forest) (node : Stored) (name : List ℕ) → edits.renamed name (edits.standing_at (forests.get F) node)
    ≡ (if is_of_names (told_at (stored_at F node)).kind then Ok (edit.Rename name) else Err XPTY0004)
renamed_is F node name = ap (edits.renamed name) (standing_is F node) ∙ named_at name (stored_at F node)
