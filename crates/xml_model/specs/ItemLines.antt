-- The lines of an answer to a query: those of its items, one after another.
use Rattle.std.specs.Prelude.{ℕ, List, [], ◌∷◌, map, Option, Some, None}
use Rattle.std.specs.Fmt.{signed_decimal}
use Rattle.xml_model.specs.Place.{Placed, the_document, a_node, an_attribute}
use Rattle.xml_model.specs.Trees.{joined}
use Rattle.xml_model.specs.Values.{escaped}
use Rattle.xml_model.specs.Pyx.{Line, pyx, pyx_node, attribute_line}
use Rattle.xml_model.specs.Items.{Documents, Item, Items, node, string, integer, boolean, Made, node_at}
use Rattle.xml_model.specs.Atoms.{boolean_text}

-- an atomic value's text with its escapes, behind `=`
abbrev pub atom_line : List ℕ → List Line
atom_line text = (61 ∷ escaped text) ∷ []

-- an element has its lines of PYX, an attribute, a text or an instruction its one line, and a document those of its
-- children
abbrev pub placed_lines : Option Placed → List Line
placed_lines None = []
placed_lines (Some (the_document doc)) = pyx doc
placed_lines (Some (a_node n)) = pyx_node n
placed_lines (Some (an_attribute a)) = attribute_line a ∷ []

abbrev pub item_lines : Documents → Made → Item → List Line
item_lines docs made (node n) = placed_lines (node_at docs made n)
item_lines docs made (string text) = atom_line text
item_lines docs made (integer n) = atom_line (signed_decimal n)
item_lines docs made (boolean b) = atom_line (boolean_text b)

abbrev pub lines_of : Documents → Made → Items → List Line
lines_of docs made items = joined (map (item_lines docs made) items)
