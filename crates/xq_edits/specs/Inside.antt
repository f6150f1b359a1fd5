-- Nodes that stand in one another.
use Rattle.std.specs.Prelude.{Bool, IsTrue, is_some, bytes_eq, ◌&&◌}
use Rattle.xml_model.specs.Edits.{stands_below}
use Rattle.xml_model.specs.Forest.{Forest}
use Rattle.xml_model.specs.Nav.{Stored, stored_at}

-- something stands at the node
abbrev pub IsThere : Forest → Stored → Type 0
IsThere F node = IsTrue (is_some (stored_at F node))

-- the node stands in the other one
abbrev pub is_inside : Stored → Stored → Bool
is_inside node outer = bytes_eq node.name outer.name && stands_below node.place outer.place
