-- What stands at a target, by its kind.
use Rattle.std.proofs.Common.{◌≡◌, Option, Some, None, Ok, Err, refl, sym, ap, ◌∙◌}
use Rattle.std.specs.FinMap as forests
use Rattle.std.specs.Option.{option_map, option_and_then}
use Rattle.std.specs.Prelude.{unwrap_or}
use Rattle.xq_ast.specs.declared.code.Code.TheVariants.{XPTY0004}
use Rattle.xq_ast.specs.declared.kind.Kind.{Kind}
use Rattle.xq_ast.specs.declared.kind.Kind.TheVariants as kind
use Rattle.xml_model.specs.declared.edit.EditKind.{EditKind}
use Rattle.xml_model.specs.declared.node.Doc.{Doc}
use Rattle.xml_model.specs.declared.node.Node.{Node, out-Node}
use Rattle.xml_model.specs.declared.node.Node.TheOpen.{Node-F, Element, Text, Pi}
use Rattle.xml_model.specs.Edits.{standing_at, unless_document, beside}
use Rattle.xml_model.specs.Forest.{Forest}
use Rattle.xml_model.specs.Nav.{Stored, stored_at, standing, told_at, told_in, told_of}
use Rattle.xml_model.specs.Nodes.{no_nodes}
use Rattle.xml_model.specs.Place.{Placed, the_document, a_node, an_attribute, placed_from}
use Rattle.xq_nodes.proofs.Places.{nowhere}

-- What stands at a node is what stands there in the forest, or a document without nodes.
pub stands_there : (F : Forest) (n : Stored) → standing_at (forests.get F) n ≡ unwrap_or (stored_at F n) no_nodes
stands_there F n = go (forests.get F n.name)
  where
    go : (o : Option Doc) → unwrap_or (placed_from n.place (option_map the_document o)) no_nodes
        ≡ unwrap_or (option_and_then (λ root. standing root n.place) (option_map the_document o)) no_nodes
    go None = ap (λ o. unwrap_or o no_nodes) (nowhere n.place)
    go (Some doc) = refl

told_unwrapped : (o : Option Placed) → (told_at o).kind ≡ (told_of (unwrap_or o no_nodes)).kind
told_unwrapped None = refl
told_unwrapped (Some it) = refl

-- What a node tells of its kind is the kind of what stands there.
pub kind_there : (F : Forest) (n : Stored) → (told_at (stored_at F n)).kind ≡ (told_of (standing_at (forests.get F) n)).kind
kind_there F n = told_unwrapped (stored_at F n) ∙ ap (λ it. (told_of it).kind) (sym (stands_there F n))

-- ---- kinds

-- a node of a list of children is no document
no_document : (x : Node-F Node) → (told_in x).kind ≡ kind.Document → ⊥
no_document (Element name attrs kids) e = cc
no_document (Text value) e = cc
no_document (Pi target value) e = cc

-- and no attribute
no_attribute : (x : Node-F Node) → (told_in x).kind ≡ kind.Attribute → ⊥
no_attribute (Element name attrs kids) e = cc
no_attribute (Text value) e = cc
no_attribute (Pi target value) e = cc

module _ (what : EditKind) (k : Kind) where
  -- A document does not go.
  pub document_stays : (p : Placed) → k ≡ (told_of p).kind → k ≡ kind.Document → unless_document what p ≡ Err XPTY0004
  document_stays (the_document doc) e is = refl
  document_stays (a_node n) e is = absurd (no_document (out-Node n) (sym e ∙ is))
  document_stays (an_attribute a) e is = absurd (cc)

  -- Anything else does.
  pub other_goes : (p : Placed) → k ≡ (told_of p).kind → (k ≡ kind.Document → ⊥) → unless_document what p ≡ Ok what
  other_goes (the_document doc) e is = absurd (is e)
  other_goes (a_node n) e is = refl
  other_goes (an_attribute a) e is = refl

  -- Nothing stands beside a document.
  pub beside_document : (p : Placed) → k ≡ (told_of p).kind → k ≡ kind.Document → beside what p ≡ Err XPTY0004
  beside_document (the_document doc) e is = refl
  beside_document (a_node n) e is = absurd (no_document (out-Node n) (sym e ∙ is))
  beside_document (an_attribute a) e is = refl

  -- No node is put beside an attribute.
  pub beside_attribute : (p : Placed) → k ≡ (told_of p).kind → k ≡ kind.Attribute → beside what p ≡ Err XPTY0004
  beside_attribute (the_document doc) e is = refl
  beside_attribute (a_node n) e is = absurd (no_attribute (out-Node n) (sym e ∙ is))
  beside_attribute (an_attribute a) e is = refl

  -- Beside anything else one is.
  pub beside_child : (p : Placed) → k ≡ (told_of p).kind → (k ≡ kind.Document → ⊥) → (k ≡ kind.Attribute → ⊥) → beside what p ≡ Ok what
  beside_child (the_document doc) e document attribute = absurd (document e)
  beside_child (a_node n) e document attribute = refl
  beside_child (an_attribute a) e document attribute = absurd (attribute e)
