-- Names that attributes of two lists share.
use Rattle.std.specs.Prelude.{ℕ, Bool, false, ◌||◌, if◌then◌else◌, List, [], ◌∷◌, ◌++◌, Option, None, Some, Result, Ok, Err}
use Rattle.xq_ast.specs.declared.code.Code.{Code}
use Rattle.xq_ast.specs.declared.code.Code.TheVariants.{XQDY0025}
use Rattle.xml_model.specs.declared.edit.EditKind.{EditKind}
use Rattle.xml_model.specs.declared.edit.EditKind.TheVariants as edit
use Rattle.xml_model.specs.declared.node.Attr.{Attr}
use Rattle.xml_model.specs.Constructors.{has_name_twice}
use Rattle.xml_model.specs.Edits.{Content}
use Rattle.xml_model.specs.Place.{Placed, the_document, a_node, an_attribute}
use Rattle.xml_model.specs.Trees.{has_attribute}

-- the name of an attribute; what else stands at a place has none of these
abbrev pub attribute_name : Option Placed → Option (List ℕ)
attribute_name None = None
attribute_name (Some (the_document doc)) = None
attribute_name (Some (a_node n)) = None
attribute_name (Some (an_attribute a)) = Some a.name

-- an attribute of the first list has the name of one of the second
abbrev pub share_name : List Attr → List Attr → Bool
share_name [] others = false
share_name (a ∷ attrs) others = has_attribute a.name others || share_name attrs others

-- content goes into an element with these attributes, where no name stands twice then
abbrev pub into_attributes : List Attr → Content → Result EditKind Code
into_attributes attrs c = if has_name_twice (attrs ++ c.attrs) then Err XQDY0025 else Ok (edit.Into c.attrs c.kids)
