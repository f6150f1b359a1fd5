-- The rows that entries stand for.
use Rattle.xml_model.specs.declared.tree_rows.Entry.{Entry}
use Rattle.xml_model.specs.declared.tree_rows.PlacedRef.{PlacedRef}
use Rattle.xml_model.specs.declared.tree_rows.PlacedRef.TheVariants as placed_ref
use Rattle.xml_model.specs.Nav.{told_of}
use Rattle.xml_model.specs.Numbering.{Row}
use Rattle.xml_model.specs.Place.{Placed, the_document, a_node, an_attribute}

abbrev pub placed_by : PlacedRef → Placed
placed_by (placed_ref.Document doc) = the_document doc.now
placed_by (placed_ref.Node n) = a_node n.now
placed_by (placed_ref.Attribute a) = an_attribute a.now

abbrev pub row_of : Entry → Row
row_of entry = record { told = told_of (placed_by entry.it); back = entry.back; size = entry.size }
