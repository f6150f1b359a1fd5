-- What edits make of a document: a new tree, from the old one in one pass. All edits are applied at once; then empty
-- texts go and neighbouring texts are joined; then the limits are tested.
use Rattle.std.specs.Prelude.{ℕ, ◌+◌, if◌then◌else◌, nat_lt, List, [], ◌∷◌, ◌++◌, map, Option, None, Some, Result, Ok, Err}
use Rattle.std.specs.FinMap as fin_map
use Rattle.xq_ast.specs.declared.code.Code.{Code}
use Rattle.xq_ast.specs.declared.code.Code.TheVariants.{TooDeep, TooManyNodes, TooMuchText}
use Rattle.xml_model.specs.declared.limits.TheConstants.{DEPTH_MAX, NODES_MAX, TEXT_BYTES_MAX}
use Rattle.xml_model.specs.declared.node.Attr.{Attr}
use Rattle.xml_model.specs.declared.node.Doc.{Doc}
use Rattle.xml_model.specs.declared.node.Node.{Node, out-Node}
use Rattle.xml_model.specs.declared.node.Node.TheOpen.{Node-F}
use Rattle.xml_model.specs.declared.node.Node.TheFolds.{fold-Node}
use Rattle.xml_model.specs.declared.node.Node.TheVariants.{Element, Text, Pi}
use Rattle.xml_model.specs.declared.place.PlaceStep.{PlaceStep}
use Rattle.xml_model.specs.declared.place.PlaceStep.TheVariants as steps
use Rattle.xml_model.specs.Constructors.{text_in}
use Rattle.xml_model.specs.Numbering.{place_of_number}
use Rattle.xml_model.specs.Place.{the_document, place_cmp}
use Rattle.xml_model.specs.Trees.{count_of, bytes_of, depth_of}
use Rattle.xml_model.specs.declared.edit.Edit.{Edit}
use Rattle.xml_model.specs.declared.edit.EditKind.{EditKind}
use Rattle.xml_model.specs.declared.edit.EditKind.TheVariants as edit

-- edits: what is done at which places of a document
abbrev pub Edits : Type 0
Edits = fin_map.FinMap place_cmp EditKind

-- edits at the numbers of nodes, as ids count them, by the places that the numbers stand for
abbrev pub edits_at : Doc → List Edit → Edits
edits_at doc edits = fin_map.from_entries (map (λ e. (place_of_number (the_document doc) e.at, e.what)) edits)

-- what is done at each place in a node, by the steps from the node
abbrev pub EditsIn : Type 0
EditsIn = List PlaceStep → Option EditKind

-- the same for what stands one step further
abbrev pub behind : EditsIn → PlaceStep → EditsIn
behind at step place = at (step ∷ place)

-- ---- texts

-- a text that is not empty, in front of other nodes: it is joined with a text that is the first of them
abbrev pub joined_front : List ℕ → Option (List ℕ) → Node → List Node → List Node
joined_front value (Some first) n rest = Text (value ++ first) ∷ rest
joined_front value None n rest = Text value ∷ n ∷ rest

abbrev pub text_front : List ℕ → List Node → List Node
text_front value [] = Text value ∷ []
text_front value (n ∷ rest) = joined_front value (text_in (out-Node n)) n rest

-- an empty text makes no node
abbrev pub front : Node-F Node → Node → List Node → List Node
front (Node-F.Element name attrs kids) n rest = n ∷ rest
front (Node-F.Text []) n rest = rest
front (Node-F.Text (b ∷ bytes)) n rest = text_front (b ∷ bytes) rest
front (Node-F.Pi target value) n rest = n ∷ rest

-- the nodes without empty texts, and neighbouring texts joined
abbrev pub tidied : List Node → List Node
tidied [] = []
tidied (n ∷ nodes) = front (out-Node n) n (tidied nodes)

-- ---- what stands in the place of a node

-- in the place of an attribute; content that goes beside or into a node does not concern it
abbrev pub edited_attribute : Attr → Option EditKind → List Attr
edited_attribute a None = a ∷ []
edited_attribute a (Some (edit.Into attrs kids)) = a ∷ []
edited_attribute a (Some (edit.Before kids)) = a ∷ []
edited_attribute a (Some (edit.After kids)) = a ∷ []
edited_attribute a (Some edit.Delete) = []
edited_attribute a (Some edit.Undeep) = []
edited_attribute a (Some (edit.Put attrs kids)) = attrs
edited_attribute a (Some (edit.Rename name)) = record { name = name; value = a.value } ∷ []

-- of attributes, numbered from here on
abbrev pub edited_attributes : EditsIn → ℕ → List Attr → List Attr
edited_attributes at i [] = []
edited_attributes at i (a ∷ more) = edited_attribute a (at (steps.Attr i ∷ [])) ++ edited_attributes at (i + 1) more

-- in the place of an element, which has these attributes and children by now
abbrev pub edited_element : List ℕ → List Attr → List Node → Option EditKind → List Node
edited_element name attrs kids None = Element name attrs (tidied kids) ∷ []
edited_element name attrs kids (Some (edit.Into more_attrs more)) = Element name (attrs ++ more_attrs) (tidied (kids ++ more)) ∷ []
edited_element name attrs kids (Some (edit.Before others)) = others ++ Element name attrs (tidied kids) ∷ []
edited_element name attrs kids (Some (edit.After others)) = Element name attrs (tidied kids) ∷ others
edited_element name attrs kids (Some edit.Delete) = []
edited_element name attrs kids (Some edit.Undeep) = kids
edited_element name attrs kids (Some (edit.Put no_attrs others)) = others
edited_element name attrs kids (Some (edit.Rename other)) = Element other attrs (tidied kids) ∷ []

-- in the place of a text or an instruction, which is the second node where it is renamed
abbrev pub edited_leaf : Node → (List ℕ → Node) → Option EditKind → List Node
edited_leaf n renamed None = n ∷ []
edited_leaf n renamed (Some (edit.Into attrs kids)) = n ∷ []
edited_leaf n renamed (Some (edit.Before others)) = others ++ n ∷ []
edited_leaf n renamed (Some (edit.After others)) = n ∷ others
edited_leaf n renamed (Some edit.Delete) = []
edited_leaf n renamed (Some edit.Undeep) = []
edited_leaf n renamed (Some (edit.Put attrs others)) = others
edited_leaf n renamed (Some (edit.Rename name)) = renamed name ∷ []

-- of children, numbered from here on
abbrev pub edited_kids : EditsIn → ℕ → List (EditsIn → List Node) → List Node
edited_kids at i [] = []
edited_kids at i (kid ∷ more) = kid (behind at (steps.Kid i)) ++ edited_kids at (i + 1) more

abbrev pub edited_step : Node-F (EditsIn → List Node) → EditsIn → List Node
edited_step (Node-F.Element name attrs kids) at = edited_element name (edited_attributes at 0 attrs) (edited_kids at 0 kids) (at [])
edited_step (Node-F.Text value) at = edited_leaf (Text value) (λ name. Text value) (at [])
edited_step (Node-F.Pi target value) at = edited_leaf (Pi target value) (λ name. Pi name value) (at [])

-- the nodes that stand in the place of a node
abbrev pub edited_node : Node → EditsIn → List Node
edited_node = fold-Node (EditsIn → List Node) edited_step

-- ---- documents

-- nodes that go into a document go after its last node; nothing else is done to a document itself
abbrev pub edited_document : List Node → Option EditKind → List Node
edited_document kids None = kids
edited_document kids (Some (edit.Into attrs more)) = kids ++ more
edited_document kids (Some (edit.Before others)) = kids
edited_document kids (Some (edit.After others)) = kids
edited_document kids (Some edit.Delete) = kids
edited_document kids (Some edit.Undeep) = kids
edited_document kids (Some (edit.Put attrs others)) = kids
edited_document kids (Some (edit.Rename name)) = kids

-- the document after the edits
abbrev pub edited : Doc → EditsIn → Doc
edited doc at = record { kids = tidied (edited_document (edited_kids at 0 (map edited_node doc.kids)) (at [])) }

-- a document that keeps to the three limits
abbrev pub limited_document : Doc → Result Doc Code
limited_document doc =
    if nat_lt DEPTH_MAX (depth_of doc.kids) then Err TooDeep else
    (if nat_lt NODES_MAX (count_of doc.kids) then Err TooManyNodes else
    (if nat_lt TEXT_BYTES_MAX (bytes_of doc.kids) then Err TooMuchText else Ok doc))

-- the document after the edits, or the first limit that it would be past
abbrev pub rebuild : Doc → Edits → Result Doc Code
rebuild doc edits = limited_document (edited doc (fin_map.get edits))
