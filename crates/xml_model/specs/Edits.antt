-- What an update asks for: the edits of its targets, or the first code; and the forest after it. All targets are found in
-- the old documents, and all edits are applied at once. Where two codes can come, that of the first target in document
-- order comes, and for one target the first in the order of the rules below.
use Rattle.std.specs.Prelude.{ℕ, Bool, true, false, ◌&&◌, if◌then◌else◌, List, [], ◌∷◌, ◌++◌, bytes_eq, Option, None, Some, Result, Ok, Err, unwrap_or}
use Rattle.std.specs.FinMap as fin_map
use Rattle.std.specs.List.{list_any}
use Rattle.std.specs.Option.{option_map}
use Rattle.std.specs.Ordering.{is_eq}
use Rattle.xq_ast.specs.declared.code.Code.{Code}
use Rattle.xq_ast.specs.declared.code.Code.TheVariants.{XPTY0004, XQTY0024, XQDY0025}
use Rattle.xq_ast.specs.declared.update.Update.{Update as UpdateCall}
use Rattle.xq_ast.specs.declared.update.Update.TheVariants as update
use Rattle.xml_model.specs.declared.node.Attr.{Attr}
use Rattle.xml_model.specs.declared.node.Doc.{Doc}
use Rattle.xml_model.specs.declared.node.Node.{Node, out-Node}
use Rattle.xml_model.specs.declared.node.Node.TheOpen.{Node-F, Element, Text, Pi}
use Rattle.xml_model.specs.declared.place.PlaceStep.{PlaceStep}
use Rattle.xml_model.specs.declared.place.PlaceStep.TheVariants as steps
use Rattle.xml_model.specs.Constructors.{Piece, content_of, has_late_attribute, has_name_twice, attributes_of, children_of}
use Rattle.xml_model.specs.DocumentOrder.{node_cmp, in_order}
use Rattle.xml_model.specs.Evaluation.{meaning}
use Rattle.xml_model.specs.Forest.{Forest}
use Rattle.xml_model.specs.Items.{Documents, Tree, stored, constructed, Item, Items, node, string, integer, boolean, Made, Making, give, plain, look, ◌>>=◌, ◌>>?◌}
use Rattle.xml_model.specs.Nav.{Stored, Ending, ending, at_place}
use Rattle.xml_model.specs.Nodes.{no_nodes}
use Rattle.xml_model.specs.Place.{Placed, the_document, a_node, an_attribute, attrs_of, placed_from, place_cmp, step_cmp}
use Rattle.xml_model.specs.Tuples.{Bindings, Means}
use Rattle.xml_model.specs.declared.edit.EditKind.{EditKind}
use Rattle.xml_model.specs.declared.edit.EditKind.TheVariants as edit
use Rattle.xml_model.specs.Rebuild.{EditsIn, edited_attributes, rebuild}

-- what is done to a node of a document
pub record Change : Type 0 where
  pub node : Stored
  pub what : EditKind

-- ---- targets

-- a target is a node of a document; a node that was constructed is none
abbrev pub stored_in : Tree → List PlaceStep → Result Stored Code
stored_in (stored name) place = Ok (record { name = name; place = place })
stored_in (constructed number) place = Err XPTY0004

abbrev pub stored_node : Item → Result Stored Code
stored_node (node n) = stored_in n.tree n.place
stored_node (string text) = Err XPTY0004
stored_node (integer n) = Err XPTY0004
stored_node (boolean b) = Err XPTY0004

abbrev pub stored_nodes : Items → Result (List Stored) Code
stored_nodes [] = Ok []
stored_nodes (item ∷ items) = stored_node item >>? (λ n. stored_nodes items >>? (λ ns. Ok (n ∷ ns)))

-- in document order, each once; all items are looked at before any target is tested
abbrev pub targets_of : Items → Result (List Stored) Code
targets_of items = stored_nodes items >>? (λ ns. Ok (in_order node_cmp ns))

-- ---- content

-- attributes, and the nodes behind them
pub record Content : Type 0 where
  pub attrs : List Attr
  pub kids : List Node

-- content as in a constructor: its tests but for the limits, which are those of the documents that come of it
abbrev pub as_content : List Piece → Result Content Code
as_content pieces =
    if has_late_attribute false pieces then Err XQTY0024 else
    (if has_name_twice (attributes_of pieces) then Err XQDY0025 else Ok (record { attrs = attributes_of pieces; kids = children_of pieces }))

abbrev pub nodes_alone : List Attr → List Node → Result (List Node) Code
nodes_alone [] kids = Ok kids
nodes_alone (a ∷ attrs) kids = Err XPTY0004

-- content that has no attributes
abbrev pub without_attributes : Content → Result (List Node) Code
without_attributes c = nodes_alone c.attrs c.kids

abbrev pub attributes_alone : List Attr → List Node → Result (List Attr) Code
attributes_alone attrs [] = Ok attrs
attributes_alone attrs (n ∷ kids) = Err XPTY0004

-- content that has attributes alone
abbrev pub with_attributes_alone : Content → Result (List Attr) Code
with_attributes_alone c = attributes_alone c.attrs c.kids

-- ---- what an update may do to what stands at a target

-- into an element or a document: no attributes into a document, and no name that is there already
abbrev pub into_layer : Content → Node-F Node → Result EditKind Code
into_layer c (Element name attrs kids) = if has_name_twice (attrs ++ c.attrs) then Err XQDY0025 else Ok (edit.Into c.attrs c.kids)
into_layer c (Text value) = Err XPTY0004
into_layer c (Pi target value) = Err XPTY0004

abbrev pub into : Content → Placed → Result EditKind Code
into c (the_document doc) = without_attributes c >>? (λ kids. Ok (edit.Into [] kids))
into c (a_node n) = into_layer c (out-Node n)
into c (an_attribute a) = Err XPTY0004

-- beside an element, a text or an instruction
abbrev pub beside : EditKind → Placed → Result EditKind Code
beside what (the_document doc) = Err XPTY0004
beside what (a_node n) = Ok what
beside what (an_attribute a) = Err XPTY0004

-- any node but a document
abbrev pub unless_document : EditKind → Placed → Result EditKind Code
unless_document what (the_document doc) = Err XPTY0004
unless_document what (a_node n) = Ok what
unless_document what (an_attribute a) = Ok what

-- in place of a child nodes alone, in place of an attribute attributes alone
abbrev pub in_place_of : Content → Placed → Result EditKind Code
in_place_of c (the_document doc) = Err XPTY0004
in_place_of c (a_node n) = without_attributes c >>? (λ kids. Ok (edit.Put [] kids))
in_place_of c (an_attribute a) = with_attributes_alone c >>? (λ attrs. Ok (edit.Put attrs []))

-- an element, an attribute or an instruction
abbrev pub renamed_layer : List ℕ → Node-F Node → Result EditKind Code
renamed_layer name (Element old attrs kids) = Ok (edit.Rename name)
renamed_layer name (Text value) = Err XPTY0004
renamed_layer name (Pi target value) = Ok (edit.Rename name)

abbrev pub renamed : List ℕ → Placed → Result EditKind Code
renamed name (the_document doc) = Err XPTY0004
renamed name (a_node n) = renamed_layer name (out-Node n)
renamed name (an_attribute a) = Ok (edit.Rename name)

-- ---- target by target

-- one place stands in another: the other begins it and is not it
abbrev pub stands_below : List PlaceStep → List PlaceStep → Bool
stands_below [] place = false
stands_below (s ∷ inner) [] = true
stands_below (s ∷ inner) (t ∷ outer) = is_eq (step_cmp s t) && stands_below inner outer

abbrev pub stands_in : Stored → Change → Bool
stands_in n c = bytes_eq n.name c.node.name && stands_below n.place c.node.place

-- a target inside another is not replaced; those that it can stand in come before it
abbrev pub outermost : List Change → Stored → Result Stored Code
outermost done n = if list_any (stands_in n) done then Err XPTY0004 else Ok n

-- what is done at the places of one document
abbrev pub done_in : List ℕ → List Change → EditsIn
done_in name [] place = None
done_in name (c ∷ more) place =
    if bytes_eq c.node.name name && is_eq (place_cmp c.node.place place) then Some c.what else done_in name more place

abbrev pub element_by : Stored → Option Ending → Option Stored
element_by n None = None
element_by n (Some e) = by_step e.last
  where
    by_step : PlaceStep → Option Stored
    by_step (steps.Attr i) = Some (at_place n e.above)
    by_step (steps.Kid i) = None

-- the element of an attribute
abbrev pub element_of : Stored → Option Stored
element_of n = element_by n (ending n.place)

abbrev pub is_same_element : Option Stored → Option Stored → Bool
is_same_element None m = false
is_same_element (Some n) None = false
is_same_element (Some n) (Some m) = is_eq (node_cmp n m)

-- the next target is an attribute of the same element
abbrev pub goes_on : Stored → List Stored → Bool
goes_on n [] = false
goes_on n (m ∷ more) = is_same_element (element_of n) (element_of m)

module _ (docs : Documents) where
  -- what stands at a node; where nothing stands, it is taken for a document without nodes
  abbrev pub standing_at : Stored → Placed
  standing_at n = unwrap_or (placed_from n.place (option_map the_document (docs n.name))) no_nodes

  abbrev pub names_twice : List Change → Option Stored → Bool
  names_twice done None = false
  names_twice done (Some n) = has_name_twice (edited_attributes (λ place. done_in n.name done (n.place ++ place)) 0 (attrs_of (standing_at n)))

  -- once the last target among the attributes of an element has its edit, no two attributes may have one name
  abbrev pub named_once : List Change → List Stored → Change → Result EditKind Code
  named_once done more c =
      if goes_on c.node more then Ok c.what else
      (if names_twice (done ++ c ∷ []) (element_of c.node) then Err XQDY0025 else Ok c.what)

  -- each target in turn: what it is given depends on the changes before it and the targets behind it
  abbrev pub each : (List Change → Stored → List Stored → Making EditKind) → List Change → List Stored → Making (List Change)
  each go done [] = give done
  each go done (n ∷ more) = go done n more >>= (λ what. each go (done ++ record { node = n; what = what } ∷ []) more)

  -- each target by itself
  abbrev pub each_alone : (Placed → Result EditKind Code) → List Stored → Making (List Change)
  each_alone may = each (λ done n more. plain (may (standing_at n))) []

  -- the value of an expression as content, where these variables are bound
  abbrev pub content : Means → Bindings → Making Content
  content e env = e env None >>= (λ items. look (λ made. as_content (content_of docs made items)))

  abbrev pub targets : Means → Making (List Stored)
  targets e = e [] None >>= (λ items. plain (targets_of items))

  -- ---- the forms

  -- the source comes before the target
  abbrev pub insert_into : Means → Means → Making (List Change)
  insert_into source target = content source [] >>= (λ c. targets target >>= each_alone (into c))

  -- attributes in the source are refused also where there is no target
  abbrev pub insert_beside : (List Node → EditKind) → Means → Means → Making (List Change)
  insert_beside put source target =
      content source [] >>= (λ c. targets target >>= (λ ns. plain (without_attributes c) >>= (λ kids. each_alone (beside (put kids)) ns)))

  abbrev pub delete : EditKind → Means → Making (List Change)
  delete what target = targets target >>= each_alone (unless_document what)

  -- a target's own tests, then what it is replaced by, with the variable bound to the target, then what that must be
  abbrev pub replaced : List ℕ → Means → List Change → Stored → List Stored → Making EditKind
  replaced name by done n more =
      plain (unless_document edit.Delete (standing_at n) >>? (λ _. outermost done n)) >>= (λ n.
      content by (record { name = name; value = node (record { tree = stored n.name; place = n.place }) ∷ [] } ∷ []) >>= (λ c.
      plain (in_place_of c (standing_at n) >>? (λ what. named_once done more (record { node = n; what = what })))))

  abbrev pub replace : List ℕ → Means → Means → Making (List Change)
  replace name target by = targets target >>= each (replaced name by) []

  abbrev pub rename : List ℕ → Means → Making (List Change)
  rename name target =
      targets target >>= each (λ done n more. plain (renamed name (standing_at n) >>? (λ what. named_once done more (record { node = n; what = what })))) []

  -- the changes that an update asks for, in document order
  abbrev pub changes : UpdateCall → Making (List Change)
  changes (update.Into source target) = insert_into (meaning docs source) (meaning docs target)
  changes (update.Preceding source target) = insert_beside edit.Before (meaning docs source) (meaning docs target)
  changes (update.Following source target) = insert_beside edit.After (meaning docs source) (meaning docs target)
  changes (update.Delete target) = delete edit.Delete (meaning docs target)
  changes (update.DeleteUndeep target) = delete edit.Undeep (meaning docs target)
  changes (update.Replace name target by) = replace name (meaning docs target) (meaning docs by)
  changes (update.Rename target name) = rename name (meaning docs target)

-- ---- document by document

-- the edits of one document, by their places in order
pub record DocumentEdits : Type 0 where
  pub name : List ℕ
  pub edits : List (List PlaceStep × EditKind)

abbrev pub with_change : Change → List DocumentEdits → List DocumentEdits
with_change c [] = record { name = c.node.name; edits = (c.node.place, c.what) ∷ [] } ∷ []
with_change c (d ∷ ds) =
    if bytes_eq c.node.name d.name then record { name = d.name; edits = (c.node.place, c.what) ∷ d.edits } ∷ ds else
    record { name = c.node.name; edits = (c.node.place, c.what) ∷ [] } ∷ d ∷ ds

-- changes in document order, by their documents in the order of the names
abbrev pub by_document : List Change → List DocumentEdits
by_document [] = []
by_document (c ∷ more) = with_change c (by_document more)

abbrev pub rebuilt_there : Forest → DocumentEdits → Option Doc → Result Forest Code
rebuilt_there F d None = Ok F
rebuilt_there F d (Some doc) = rebuild doc (fin_map.from_entries d.edits) >>? (λ new. Ok (fin_map.insert F d.name new))

-- the forest with each of these documents rebuilt, or the first limit that one of them would be past
abbrev pub rebuilt_all : Forest → List DocumentEdits → Result Forest Code
rebuilt_all F [] = Ok F
rebuilt_all F (d ∷ ds) = rebuilt_there F d (fin_map.get F d.name) >>? (λ G. rebuilt_all G ds)

abbrev pub updated_by : Forest → Result (List Change × Made) Code → Result Forest Code
updated_by F (Ok both) = rebuilt_all F (by_document both.0)
updated_by F (Err code) = Err code

-- the forest after an update, or its code
abbrev pub updated : Forest → UpdateCall → Result Forest Code
updated F what = updated_by F (changes (fin_map.get F) what [])
