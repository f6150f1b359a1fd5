-- What a copy is a copy of.
use Rattle.std.specs.Prelude.{[], ◌∷◌, ◌++◌, unwrap_or}
use Rattle.xml_model.specs.Forest.{Forest}
use Rattle.xml_model.specs.Nav.{Stored, stored_at}
use Rattle.xml_model.specs.Nodes.{no_nodes}
use Rattle.xml_model.specs.Place.{Placed, the_document, a_node, an_attribute}
use Rattle.xq_nodes.specs.declared.copies.Copied.{Copied}
use Rattle.xq_nodes.specs.declared.copies.Copied.TheVariants as copied
use Rattle.xq_nodes.specs.declared.copies.Inside.{Inside}

abbrev pub copied_as : Copied → Placed
copied_as (copied.Document kids) = the_document (record { kids = kids })
copied_as (copied.Node n) = a_node n
copied_as (copied.Attribute a) = an_attribute a

-- what stands at a node; where nothing stands, a document without nodes
abbrev pub standing_at : Forest → Stored → Placed
standing_at F node = unwrap_or (stored_at F node) no_nodes

-- an attribute or a node more inside
abbrev pub with_copied : Inside → Copied → Inside
with_copied inside (copied.Document kids) = inside
with_copied inside (copied.Node n) = record { attrs = inside.attrs; kids = inside.kids ++ n ∷ [] }
with_copied inside (copied.Attribute a) = record { attrs = inside.attrs ++ a ∷ []; kids = inside.kids }
