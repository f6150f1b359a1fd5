-- Which documents are valid (XQuery 1.0 and XPath 2.0 Data Model, sections 2.4 and 6, and this profile).
-- The bytes are those of `Str`: that they are UTF-8 is kept by that type, and not by these definitions.
use Rattle.std.specs.Prelude.{◌≤◌, nat_lt, Bool, true, false, not, ◌&&◌, IsTrue, List, [], ◌∷◌, map, length}
use Rattle.xq_ast.specs.Names.{is_name}
use Rattle.xml_model.specs.declared.limits.TheConstants.{DEPTH_MAX, NODES_MAX, TEXT_BYTES_MAX}
use Rattle.xml_model.specs.declared.node.Attr.{Attr}
use Rattle.xml_model.specs.declared.node.Doc.{Doc}
use Rattle.xml_model.specs.declared.node.Node.{Node}
use Rattle.xml_model.specs.declared.node.Node.TheOpen.{Node-F, Element, Text, Pi}
use Rattle.xml_model.specs.declared.node.Node.TheFolds.{fold-Node}
use Rattle.xml_model.specs.Trees.{count_of, bytes_of, depth_of, has_attribute}

-- names of attributes, no name twice
abbrev pub are_attributes : List Attr → Bool
are_attributes [] = true
are_attributes (a ∷ more) = is_name a.name && (not (has_attribute a.name more) && are_attributes more)

-- a node among its siblings: whether it is a text, and whether it is well-formed
pub record Sibling : Type 0 where
  pub is_text : Bool
  pub is_formed : Bool

-- all are well-formed, and no two neighbours are texts; the first argument says whether a text stands before
abbrev pub are_formed : Bool → List Sibling → Bool
are_formed after [] = true
are_formed after (n ∷ more) = not (after && n.is_text) && (n.is_formed && are_formed n.is_text more)

-- An element is well-formed where its name is a name and its attributes and its children are well-formed, a text
-- where it is not empty, and an instruction where its target is a name.
abbrev pub sibling_step : Node-F Sibling → Sibling
sibling_step (Element name attrs kids) = record { is_text = false; is_formed = is_name name && (are_attributes attrs && are_formed false kids) }
sibling_step (Text value) = record { is_text = true; is_formed = nat_lt 0 (length value) }
sibling_step (Pi target value) = record { is_text = false; is_formed = is_name target }

-- what the node is among its siblings: whether it is a text, and whether it and all below it are well-formed
abbrev pub sibling : Node → Sibling
sibling = fold-Node Sibling sibling_step

-- a valid document: its nodes are well-formed, and it keeps to the three limits
pub record IsValid (doc : Doc) : Type 0 where
  pub formed : IsTrue (are_formed false (map sibling doc.kids))
  pub depth : depth_of doc.kids ≤ DEPTH_MAX
  pub nodes : count_of doc.kids ≤ NODES_MAX
  pub text : bytes_of doc.kids ≤ TEXT_BYTES_MAX
