-- What items make of the content of a new element, one after another.
use Rattle.std.specs.Prelude.{ℕ, Bool, true, false, ◌||◌, List, [], ◌∷◌, ◌++◌, Option, Some, None, ◌≡◌}
use Rattle.xml_model.specs.declared.node.Attr.{Attr}
use Rattle.xml_model.specs.declared.node.Node.{Node, out-Node}
use Rattle.xml_model.specs.declared.node.Node.TheVariants.{Text}
use Rattle.xml_model.specs.declared.value.Atom.{Atom}
use Rattle.xml_model.specs.declared.value.Atom.TheVariants as atom
use Rattle.xml_model.specs.Items.{Documents, Made, Items, node, string, integer, boolean, node_at}
use Rattle.xml_model.specs.Constructors.{Piece, an_attribute_piece, a_child, text_in, pieces_of, attributes_of, children_of, has_late_attribute}
use Rattle.xq_values.specs.declared.content.Content.{Content}
use Rattle.xq_values.specs.Words.{word}

-- a list has an element
abbrev pub some : {A : Type 0} → List A → Bool
some [] = false
some (x ∷ xs) = true

abbrev pub no_content : Content
no_content = record { attrs = []; kids = []; late = false; text = []; after_value = false }

-- the text at the end becomes a child, where it is not empty
abbrev pub closed_by : List ℕ → Content → Content
closed_by [] c = c
closed_by (b ∷ text) c = record { attrs = c.attrs; kids = c.kids ++ Text (b ∷ text) ∷ []; late = c.late; text = []; after_value = c.after_value }

abbrev pub closed : Content → Content
closed c = closed_by c.text c

-- an atomic value comes
abbrev pub with_value : Content → Atom → Content
with_value c a =
    record { attrs = c.attrs; kids = c.kids; late = c.late; text = c.text ++ word c.after_value a; after_value = true }

-- a text comes
abbrev pub with_text : Content → List ℕ → Content
with_text c text = record { attrs = c.attrs; kids = c.kids; late = c.late; text = c.text ++ text; after_value = false }

-- an attribute comes behind what is closed
abbrev pub attribute_behind : Content → Attr → Content
attribute_behind c a =
    record { attrs = c.attrs ++ a ∷ []; kids = c.kids; late = c.late || some c.kids; text = []; after_value = false }

-- another node comes behind what is closed
abbrev pub node_behind : Content → Node → Content
node_behind c n = record { attrs = c.attrs; kids = c.kids ++ n ∷ []; late = c.late; text = []; after_value = false }

abbrev pub with_attribute : Content → Attr → Content
with_attribute c a = attribute_behind (closed c) a

abbrev pub child_by : Option (List ℕ) → Content → Node → Content
child_by (Some text) c n = with_text c text
child_by None c n = node_behind (closed c) n

-- a child comes
abbrev pub with_child : Content → Node → Content
with_child c n = child_by (text_in (out-Node n)) c n

abbrev pub with_piece : Content → Piece → Content
with_piece c (an_attribute_piece a) = with_attribute c a
with_piece c (a_child n) = with_child c n

abbrev pub with_pieces : Content → List Piece → Content
with_pieces c [] = c
with_pieces c (p ∷ ps) = with_pieces (with_piece c p) ps

-- a node comes, before its pieces: an atomic value after it begins a new text
abbrev pub at_node : Content → Content
at_node c = record { attrs = c.attrs; kids = c.kids; late = c.late; text = c.text; after_value = false }

-- all items, one after another
abbrev pub with_items : Documents → Made → Content → Items → Content
with_items docs made c [] = c
with_items docs made c (node n ∷ items) = with_items docs made (with_pieces (at_node c) (pieces_of (node_at docs made n))) items
with_items docs made c (string text ∷ items) = with_items docs made (with_value c (atom.Text text)) items
with_items docs made c (integer n ∷ items) = with_items docs made (with_value c (atom.Int n)) items
with_items docs made c (boolean b ∷ items) = with_items docs made (with_value c (atom.Truth b)) items

-- what is closed has the attributes and the children of these pieces
pub record StandsFor (c : Content) (ps : List Piece) : Type 0 where
  pub attrs : c.attrs ≡ attributes_of ps
  pub kids : c.kids ≡ children_of ps
  pub late : c.late ≡ has_late_attribute false ps
