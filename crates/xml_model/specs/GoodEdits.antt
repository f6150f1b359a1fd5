-- Edits that keep a document well-formed: what they bring is well-formed, and no element has two attributes of one name
-- in the end.
use Rattle.std.specs.Prelude.{◌≡◌, Bool, true, false, ◌&&◌, IsTrue, IfSome, List, ◌++◌, Option, None, Some}
use Rattle.std.specs.List.{list_all}
use Rattle.xq_ast.specs.Names.{is_name}
use Rattle.xml_model.specs.declared.node.Attr.{Attr}
use Rattle.xml_model.specs.declared.node.Doc.{Doc}
use Rattle.xml_model.specs.declared.node.Node.{Node}
use Rattle.xml_model.specs.declared.place.PlaceStep.{PlaceStep}
use Rattle.xml_model.specs.Constructors.{has_name_twice}
use Rattle.xml_model.specs.Document.{sibling}
use Rattle.xml_model.specs.Place.{Placed, placed, attrs_of}
use Rattle.xml_model.specs.declared.edit.EditKind.{EditKind}
use Rattle.xml_model.specs.declared.edit.EditKind.TheVariants as edit
use Rattle.xml_model.specs.Rebuild.{EditsIn, edited_attributes}

abbrev pub are_named : List Attr → Bool
are_named = list_all (λ a. is_name a.name)

-- each node by itself: two texts may be neighbours, since they are joined
abbrev pub are_formed_alone : List Node → Bool
are_formed_alone = list_all (λ n. (sibling n).is_formed)

-- what an edit brings is well-formed
abbrev pub brings_formed : EditKind → Bool
brings_formed (edit.Into attrs kids) = are_named attrs && are_formed_alone kids
brings_formed (edit.Before kids) = are_formed_alone kids
brings_formed (edit.After kids) = are_formed_alone kids
brings_formed edit.Delete = true
brings_formed edit.Undeep = true
brings_formed (edit.Put attrs kids) = are_named attrs && are_formed_alone kids
brings_formed (edit.Rename name) = is_name name

-- the attributes of an element in the end: those that come go behind the others
abbrev pub with_more : List Attr → Option EditKind → List Attr
with_more attrs None = attrs
with_more attrs (Some (edit.Into more kids)) = attrs ++ more
with_more attrs (Some (edit.Before kids)) = attrs
with_more attrs (Some (edit.After kids)) = attrs
with_more attrs (Some edit.Delete) = attrs
with_more attrs (Some edit.Undeep) = attrs
with_more attrs (Some (edit.Put others kids)) = attrs
with_more attrs (Some (edit.Rename name)) = attrs

-- the edits keep the document well-formed
pub record KeepForm (doc : Doc) (at : EditsIn) : Type 0 where
  pub bring : (place : List PlaceStep) → IfSome (at place) (λ what. IsTrue (brings_formed what))
  pub once : (place : List PlaceStep) (from : Placed) → placed doc place ≡ Some from
      → has_name_twice (with_more (edited_attributes (λ steps. at (place ++ steps)) 0 (attrs_of from)) (at place)) ≡ false
