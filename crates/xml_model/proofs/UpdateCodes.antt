-- An update that ends with a code ends with one that a query may have.
use Rattle.std.specs.Prelude.{◌≡◌, false, IsTrue, List, [], ◌∷◌, ◌++◌, nat_lt, Option, None, Some, Result, Ok, Err, refl}
use Rattle.std.specs.FinMap as forests
use Rattle.std.specs.List.{list_any}
use Rattle.std.proofs.Common.{subst}
use Rattle.xq_ast.specs.declared.code.Code.{Code}
use Rattle.xq_ast.specs.declared.code.Code.TheVariants.{XPTY0004, XQTY0024, XQDY0025, TooDeep, TooManyNodes, TooMuchText}
use Rattle.xq_ast.specs.declared.tree.Expr.{Expr}
use Rattle.xq_ast.specs.declared.update.Update.{Update as UpdateCall}
use Rattle.xq_ast.specs.declared.update.Update.TheVariants as update
use Rattle.xml_model.specs.declared.edit.EditKind.{EditKind}
use Rattle.xml_model.specs.declared.edit.EditKind.TheVariants as edit
use Rattle.xml_model.specs.declared.limits.TheConstants.{DEPTH_MAX, NODES_MAX, TEXT_BYTES_MAX}
use Rattle.xml_model.specs.declared.node.Attr.{Attr}
use Rattle.xml_model.specs.declared.node.Doc.{Doc}
use Rattle.xml_model.specs.declared.node.Node.{Node, out-Node}
use Rattle.xml_model.specs.declared.node.Node.TheOpen.{Node-F, Element, Text, Pi}
use Rattle.xml_model.specs.declared.place.PlaceStep.{PlaceStep}
use Rattle.xml_model.specs.Constructors.{Piece, content_of, has_late_attribute, has_name_twice, attributes_of}
use Rattle.xml_model.specs.DocumentOrder.{node_cmp, in_order}
use Rattle.xml_model.specs.Edits.{Change, Content, stored_in, stored_node, stored_nodes, targets_of, as_content, nodes_alone, without_attributes, attributes_alone, with_attributes_alone, into_layer, into, beside, unless_document, in_place_of, renamed_layer, renamed, stands_in, outermost, element_of, goes_on, standing_at, names_twice, named_once, each, each_alone, content, targets, insert_into, insert_beside, delete, replaced, changes, DocumentEdits, by_document, rebuilt_there, rebuilt_all, updated_by, updated}
use Rattle.xml_model.specs.Evaluation.{meaning}
use Rattle.xml_model.specs.Forest.{Forest}
use Rattle.xml_model.specs.Items.{Documents, Tree, stored, constructed, Item, Items, node, string, integer, boolean, Made, Making, plain, ◌>>?◌}
use Rattle.xml_model.specs.Nav.{Stored}
use Rattle.xml_model.specs.Place.{Placed, the_document, a_node, an_attribute}
use Rattle.xml_model.specs.QueryCodes.{is_query_code}
use Rattle.xml_model.specs.Rebuild.{edited, limited_document, rebuild}
use Rattle.xml_model.specs.Trees.{count_of, bytes_of, depth_of}
use Rattle.xml_model.specs.Tuples.{Bindings, Means}
use Rattle.xml_model.proofs.Alike.{Any}
use Rattle.xml_model.proofs.Depths.{size, fits_at_size}
use Rattle.xml_model.proofs.Keeping.{EndsWith, Stays, stays_give, stays_plain, stays_look, stays_then, MeansStay}
use Rattle.xml_model.proofs.QueryCodes.{Coded, coded_then, coded_if}
use Rattle.xml_model.proofs.QueryTrees.{stay_within}
use Rattle.xml_model.proofs.WellFormed.{IsWellFormed}

-- ---- targets

stored_in_coded : (t : Tree) (place : List PlaceStep) → Coded (stored_in t place)
stored_in_coded (stored name) place = tt
stored_in_coded (constructed number) place = refl

stored_node_coded : (item : Item) → Coded (stored_node item)
stored_node_coded (node n) = stored_in_coded n.tree n.place
stored_node_coded (string text) = refl
stored_node_coded (integer n) = refl
stored_node_coded (boolean b) = refl

stored_nodes_coded : (items : Items) → Coded (stored_nodes items)
stored_nodes_coded [] = tt
stored_nodes_coded (item ∷ items) =
    coded_then (λ n. stored_nodes items >>? (λ ns. Ok (n ∷ ns)))
    (λ n. coded_then (λ ns. Ok (n ∷ ns)) (λ ns. tt) (stored_nodes items) (stored_nodes_coded items))
    (stored_node item) (stored_node_coded item)

targets_of_coded : (items : Items) → Coded (targets_of items)
targets_of_coded items = coded_then (λ ns. Ok (in_order node_cmp ns)) (λ ns. tt) (stored_nodes items) (stored_nodes_coded items)

-- ---- content

as_content_coded : (pieces : List Piece) → Coded (as_content pieces)
as_content_coded pieces =
    coded_if (has_late_attribute false pieces) (Err XQTY0024) _ refl (coded_if (has_name_twice (attributes_of pieces)) (Err XQDY0025) _ refl tt)

nodes_alone_coded : (attrs : List Attr) (kids : List Node) → Coded (nodes_alone attrs kids)
nodes_alone_coded [] kids = tt
nodes_alone_coded (a ∷ attrs) kids = refl

attributes_alone_coded : (attrs : List Attr) (kids : List Node) → Coded (attributes_alone attrs kids)
attributes_alone_coded attrs [] = tt
attributes_alone_coded attrs (n ∷ kids) = refl

-- ---- what may be done at a target

into_layer_coded : (c : Content) (layer : Node-F Node) → Coded (into_layer c layer)
into_layer_coded c (Element name attrs kids) = coded_if (has_name_twice (attrs ++ c.attrs)) (Err XQDY0025) (Ok (edit.Into c.attrs c.kids)) refl tt
into_layer_coded c (Text value) = refl
into_layer_coded c (Pi target value) = refl

into_coded : (c : Content) (from : Placed) → Coded (into c from)
into_coded c (the_document doc) = coded_then (λ kids. Ok (edit.Into [] kids)) (λ kids. tt) (without_attributes c) (nodes_alone_coded c.attrs c.kids)
into_coded c (a_node n) = into_layer_coded c (out-Node n)
into_coded c (an_attribute a) = refl

beside_coded : (what : EditKind) (from : Placed) → Coded (beside what from)
beside_coded what (the_document doc) = refl
beside_coded what (a_node n) = tt
beside_coded what (an_attribute a) = refl

unless_document_coded : (what : EditKind) (from : Placed) → Coded (unless_document what from)
unless_document_coded what (the_document doc) = refl
unless_document_coded what (a_node n) = tt
unless_document_coded what (an_attribute a) = tt

in_place_coded : (c : Content) (from : Placed) → Coded (in_place_of c from)
in_place_coded c (the_document doc) = refl
in_place_coded c (a_node n) = coded_then (λ kids. Ok (edit.Put [] kids)) (λ kids. tt) (without_attributes c) (nodes_alone_coded c.attrs c.kids)
in_place_coded c (an_attribute a) = coded_then (λ attrs. Ok (edit.Put attrs [])) (λ attrs. tt) (with_attributes_alone c) (attributes_alone_coded c.attrs c.kids)

renamed_layer_coded : (name : _) (layer : Node-F Node) → Coded (renamed_layer name layer)
renamed_layer_coded name (Element old attrs kids) = tt
renamed_layer_coded name (Text value) = refl
renamed_layer_coded name (Pi target value) = tt

renamed_coded : (name : _) (from : Placed) → Coded (renamed name from)
renamed_coded name (the_document doc) = refl
renamed_coded name (a_node n) = renamed_layer_coded name (out-Node n)
renamed_coded name (an_attribute a) = tt

outermost_coded : (done : List Change) (n : Stored) → Coded (outermost done n)
outermost_coded done n = coded_if (list_any (stands_in n) done) (Err XPTY0004) (Ok n) refl tt

module _ (docs : Documents) where
  once_coded : (done : List Change) (more : List Stored) (c : Change) → Coded (named_once docs done more c)
  once_coded done more c =
      coded_if (goes_on c.node more) (Ok c.what) _ tt
      (coded_if (names_twice docs (done ++ c ∷ []) (element_of c.node)) (Err XQDY0025) (Ok c.what) refl tt)

  -- ---- target by target

  -- nothing is asked of the trees
  abbrev W : Placed → Type 0
  W root = ⊥ → IsWellFormed root

  each_stay : (go : List Change → Stored → List Stored → Making EditKind) → ((done : List Change) (n : Stored) (more : List Stored) → Stays W (go done n more))
      → (done : List Change) (ns : List Stored) → Stays W (each docs go done ns)
  each_stay go h done [] = stays_give W done
  each_stay go h done (n ∷ more) =
      stays_then W _ _ (h done n more) (λ what. each_stay go h (done ++ record { node = n; what = what } ∷ []) more)

  alone_stay : (may : Placed → Result EditKind Code) → ((from : Placed) → Coded (may from)) → (ns : List Stored) → Stays W (each_alone docs may ns)
  alone_stay may h ns =
      each_stay (λ done n more. plain (may (standing_at docs n))) (λ done n more. stays_plain W (may (standing_at docs n)) (h (standing_at docs n))) [] ns

  content_stay : (e : Means) → MeansStay W e → (env : Bindings) → Stays W (content docs e env)
  content_stay e h env =
      stays_then W _ _ (h env None) (λ items.
      stays_look W (λ made. as_content (content_of docs made items)) (λ made. as_content_coded (content_of docs made items)))

  targets_stay : (e : Means) → MeansStay W e → Stays W (targets docs e)
  targets_stay e h = stays_then W _ _ (h [] None) (λ items. stays_plain W (targets_of items) (targets_of_coded items))

  -- ---- the forms

  into_stay : (source target : Means) → MeansStay W source → MeansStay W target → Stays W (insert_into docs source target)
  into_stay source target s t =
      stays_then W _ _ (content_stay source s []) (λ c. stays_then W _ _ (targets_stay target t) (alone_stay (into c) (into_coded c)))

  beside_stay : (put : List Node → EditKind) (source target : Means) → MeansStay W source → MeansStay W target
      → Stays W (insert_beside docs put source target)
  beside_stay put source target s t =
      stays_then W _ _ (content_stay source s []) (λ c. stays_then W _ _ (targets_stay target t) (λ ns.
      stays_then W _ _ (stays_plain W (without_attributes c) (nodes_alone_coded c.attrs c.kids))
      (λ kids. alone_stay (beside (put kids)) (beside_coded (put kids)) ns)))

  delete_stay : (what : EditKind) (target : Means) → MeansStay W target → Stays W (delete docs what target)
  delete_stay what target t = stays_then W _ _ (targets_stay target t) (alone_stay (unless_document what) (unless_document_coded what))

  replaced_stay : (name : _) (by : Means) → MeansStay W by → (done : List Change) (n : Stored) (more : List Stored)
      → Stays W (replaced docs name by done n more)
  replaced_stay name by h done n more =
      stays_then W _ _
      (stays_plain W (unless_document edit.Delete (standing_at docs n) >>? (λ _. outermost done n))
      (coded_then (λ _. outermost done n) (λ _. outermost_coded done n) (unless_document edit.Delete (standing_at docs n))
      (unless_document_coded edit.Delete (standing_at docs n))))
      (λ m. stays_then W _ _ (content_stay by h _) (λ c.
      stays_plain W (in_place_of c (standing_at docs m) >>? (λ what. named_once docs done more (record { node = m; what = what })))
      (coded_then (λ what. named_once docs done more (record { node = m; what = what })) (λ what. once_coded done more (record { node = m; what = what }))
      (in_place_of c (standing_at docs m)) (in_place_coded c (standing_at docs m)))))

  renamed_stay : (name : _) (done : List Change) (n : Stored) (more : List Stored)
      → Stays W (plain (renamed name (standing_at docs n) >>? (λ what. named_once docs done more (record { node = n; what = what }))))
  renamed_stay name done n more =
      stays_plain W (renamed name (standing_at docs n) >>? (λ what. named_once docs done more (record { node = n; what = what })))
      (coded_then (λ what. named_once docs done more (record { node = n; what = what })) (λ what. once_coded done more (record { node = n; what = what }))
      (renamed name (standing_at docs n)) (renamed_coded name (standing_at docs n)))

  means_stay : (e : Expr) → MeansStay W (meaning docs e)
  means_stay e = stay_within docs ⊥ (λ p. absurd p) (size e) e (fits_at_size e) (λ p. absurd p)

  changes_stay : (what : UpdateCall) → Stays W (changes docs what)
  changes_stay (update.Into source target) = into_stay (meaning docs source) (meaning docs target) (means_stay source) (means_stay target)
  changes_stay (update.Preceding source target) = beside_stay edit.Before (meaning docs source) (meaning docs target) (means_stay source) (means_stay target)
  changes_stay (update.Following source target) = beside_stay edit.After (meaning docs source) (meaning docs target) (means_stay source) (means_stay target)
  changes_stay (update.Delete target) = delete_stay edit.Delete (meaning docs target) (means_stay target)
  changes_stay (update.DeleteUndeep target) = delete_stay edit.Undeep (meaning docs target) (means_stay target)
  changes_stay (update.Replace name target by) =
      stays_then W _ _ (targets_stay (meaning docs target) (means_stay target)) (each_stay _ (replaced_stay name (meaning docs by) (means_stay by)) [])
  changes_stay (update.Rename target name) = stays_then W _ _ (targets_stay (meaning docs target) (means_stay target)) (each_stay _ (renamed_stay name) [])

-- ---- the forest after it

limited_coded : (doc : Doc) → Coded (limited_document doc)
limited_coded doc =
    coded_if (nat_lt DEPTH_MAX (depth_of doc.kids)) (Err TooDeep) _ refl (coded_if (nat_lt NODES_MAX (count_of doc.kids)) (Err TooManyNodes) _ refl
    (coded_if (nat_lt TEXT_BYTES_MAX (bytes_of doc.kids)) (Err TooMuchText) (Ok doc) refl tt))

there_coded : (F : Forest) (d : DocumentEdits) (o : Option Doc) → Coded (rebuilt_there F d o)
there_coded F d None = tt
there_coded F d (Some doc) =
    let edits = forests.from_entries d.edits in
    coded_then (λ new. Ok (forests.insert F d.name new)) (λ new. tt) (rebuild doc edits) (limited_coded (edited doc (forests.get edits)))

rebuilt_coded : (F : Forest) (ds : List DocumentEdits) → Coded (rebuilt_all F ds)
rebuilt_coded F [] = tt
rebuilt_coded F (d ∷ ds) =
    coded_then (λ G. rebuilt_all G ds) (λ G. rebuilt_coded G ds) (rebuilt_there F d (forests.get F d.name)) (there_coded F d (forests.get F d.name))

made_coded : (F : Forest) (r : Result (List Change × Made) Code) → EndsWith (W (forests.get F)) Any r → Coded (updated_by F r)
made_coded F (Ok both) h = rebuilt_coded F (by_document both.0)
made_coded F (Err code) h = h

-- an update ends with a code that a query may have, where it ends with a code
pub update_ends_coded : (F : Forest) (what : UpdateCall) (code : Code) → updated F what ≡ Err code → IsTrue (is_query_code code)
update_ends_coded F what code is = subst Coded is (made_coded F (changes (forests.get F) what []) (changes_stay (forests.get F) what [] tt))
