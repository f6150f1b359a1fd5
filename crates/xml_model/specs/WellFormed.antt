-- Which trees are well-formed: those that a valid document may hold, but for its limits, and an empty text where it stands alone.
use Rattle.std.specs.Prelude.{Bool, false, ◌||◌, map}
use Rattle.std.specs.List.{list_all}
use Rattle.xq_ast.specs.Names.{is_name}
use Rattle.xml_model.specs.Document.{are_formed, sibling}
use Rattle.xml_model.specs.Items.{Made}
use Rattle.xml_model.specs.Place.{Placed, the_document, a_node, an_attribute}

-- what stands there is well-formed with all that stands in it; a text that stands alone may be empty
abbrev pub is_well_formed : Placed → Bool
is_well_formed (the_document doc) = are_formed false (map sibling doc.kids)
is_well_formed (a_node n) = (sibling n).is_text || (sibling n).is_formed
is_well_formed (an_attribute a) = is_name a.name

-- so is each of the roots
abbrev pub are_well_formed : Made → Bool
are_well_formed = list_all is_well_formed
