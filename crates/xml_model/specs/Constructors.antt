-- Constructors (XQuery 1.0, section 3.7.3): the content of a new element, and new trees.
use Rattle.std.specs.Prelude.{ℕ, Bool, true, false, not, ◌||◌, if◌then◌else◌, nat_lt, List, [], ◌∷◌, ◌++◌, length, map, filter, Option, Some, None, Result, Ok, Err}
use Rattle.std.specs.List.{join_with_byte}
use Rattle.xq_ast.specs.declared.code.Code.{Code}
use Rattle.xq_ast.specs.declared.code.Code.TheVariants.{XQTY0024, XQDY0025, TooDeep, TooManyNodes, TooMuchText}
use Rattle.xml_model.specs.declared.limits.TheConstants.{DEPTH_MAX, NODES_MAX, TEXT_BYTES_MAX}
use Rattle.xml_model.specs.declared.node.Attr.{Attr}
use Rattle.xml_model.specs.declared.node.Node.{Node, out-Node}
use Rattle.xml_model.specs.declared.node.Node.TheOpen.{Node-F}
use Rattle.xml_model.specs.declared.node.Node.TheVariants.{Element, Text}
use Rattle.xml_model.specs.Place.{Placed, the_document, a_node, an_attribute}
use Rattle.xml_model.specs.Trees.{count_node, bytes_node, depth_node, has_attribute}
use Rattle.xml_model.specs.Items.{Documents, Items, node, string, integer, boolean, Made, node_at}
use Rattle.xml_model.specs.declared.value.Atom.TheVariants as atom
use Rattle.xml_model.specs.Atoms.{Atoms, atom_text}

-- what content is made of
pub data Piece : Type 0 where
  an_attribute_piece : Attr → Piece
  a_child : Node → Piece

-- what a node is in content
abbrev pub pieces_of : Option Placed → List Piece
pieces_of None = []
pieces_of (Some (the_document doc)) = map a_child doc.kids
pieces_of (Some (a_node n)) = a_child n ∷ []
pieces_of (Some (an_attribute a)) = an_attribute_piece a ∷ []

-- neighbouring atomic values are one text, with a space between each two
abbrev pub words : List (List ℕ) → List Piece
words [] = []
words (w ∷ ws) = a_child (Text (join_with_byte 32 (w ∷ ws))) ∷ []

-- what the items make in order: nodes are copied, and documents replaced by their children. The first list has the
-- texts of the atomic values directly before.
abbrev pub pieces : Documents → Made → List (List ℕ) → Items → List Piece
pieces docs made before [] = words before
pieces docs made before (node n ∷ items) = words before ++ (pieces_of (node_at docs made n) ++ pieces docs made [] items)
pieces docs made before (string text ∷ items) = pieces docs made (before ++ atom_text (atom.Text text) ∷ []) items
pieces docs made before (integer n ∷ items) = pieces docs made (before ++ atom_text (atom.Int n) ∷ []) items
pieces docs made before (boolean b ∷ items) = pieces docs made (before ++ atom_text (atom.Truth b) ∷ []) items

-- ---- texts that are neighbours, and empty ones

abbrev pub text_in : Node-F Node → Option (List ℕ)
text_in (Node-F.Element name attrs kids) = None
text_in (Node-F.Text value) = Some value
text_in (Node-F.Pi target value) = None

abbrev pub piece_text : Piece → Option (List ℕ)
piece_text (an_attribute_piece a) = None
piece_text (a_child n) = text_in (out-Node n)

-- two neighbours, which are joined where both are texts
abbrev pub joined_two : Option (List ℕ) → Option (List ℕ) → Piece → Piece → List Piece → List Piece
joined_two (Some s) (Some t) p q ps = a_child (Text (s ++ t)) ∷ ps
joined_two (Some s) None p q ps = p ∷ q ∷ ps
joined_two None text p q ps = p ∷ q ∷ ps

abbrev pub joined_to : Piece → List Piece → List Piece
joined_to p [] = p ∷ []
joined_to p (q ∷ ps) = joined_two (piece_text p) (piece_text q) p q ps

-- all neighbouring texts joined
abbrev pub joined_texts : List Piece → List Piece
joined_texts [] = []
joined_texts (p ∷ ps) = joined_to p (joined_texts ps)

abbrev pub is_empty_text : Option (List ℕ) → Bool
is_empty_text None = false
is_empty_text (Some []) = true
is_empty_text (Some (b ∷ bytes)) = false

-- the content that the items make: neighbouring texts are joined, and then empty ones dropped
abbrev pub content_of : Documents → Made → Items → List Piece
content_of docs made items = filter (λ p. not (is_empty_text (piece_text p))) (joined_texts (pieces docs made [] items))

-- ---- new elements

-- an attribute stands after a child; the first argument says whether a child stands before
abbrev pub has_late_attribute : Bool → List Piece → Bool
has_late_attribute after [] = false
has_late_attribute after (an_attribute_piece a ∷ ps) = after || has_late_attribute after ps
has_late_attribute after (a_child n ∷ ps) = has_late_attribute true ps

-- its attributes, and its children
abbrev pub attributes_of : List Piece → List Attr
attributes_of [] = []
attributes_of (an_attribute_piece a ∷ ps) = a ∷ attributes_of ps
attributes_of (a_child n ∷ ps) = attributes_of ps

abbrev pub children_of : List Piece → List Node
children_of [] = []
children_of (an_attribute_piece a ∷ ps) = children_of ps
children_of (a_child n ∷ ps) = n ∷ children_of ps

-- two attributes have one name
abbrev pub has_name_twice : List Attr → Bool
has_name_twice [] = false
has_name_twice (a ∷ more) = has_attribute a.name more || has_name_twice more

-- a tree that keeps to the three limits
abbrev pub limited : Node → Result Node Code
limited n =
    if nat_lt DEPTH_MAX (depth_node n) then Err TooDeep else
    (if nat_lt NODES_MAX (count_node n) then Err TooManyNodes else
    (if nat_lt TEXT_BYTES_MAX (bytes_node n) then Err TooMuchText else Ok n))

-- a new element, or the first code; each test is of the whole content
abbrev pub element : List ℕ → List Piece → Result Node Code
element name content =
    if has_late_attribute false content then Err XQTY0024 else
    (if has_name_twice (attributes_of content) then Err XQDY0025 else limited (Element name (attributes_of content) (children_of content)))

-- ---- new attributes and texts

-- a string that is not too long
abbrev pub limited_text : List ℕ → Result (List ℕ) Code
limited_text text = if nat_lt TEXT_BYTES_MAX (length text) then Err TooMuchText else Ok text

-- the texts of atomic values, with a space between each two
abbrev pub spaced : Atoms → List ℕ
spaced values = join_with_byte 32 (map atom_text values)
