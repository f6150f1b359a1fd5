-- What an update brings is well-formed, where the names in it are names and it is asked of a forest.
use Rattle.std.proofs.Common.{◌≡◌, ℕ, Bool, true, false, ◌&&◌, if◌then◌else◌, IsTrue, List, [], ◌∷◌, ◌++◌, None, Result, Ok, Err, refl, subst}
use Rattle.std.specs.FinMap as forests
use Rattle.std.specs.List.{list_all}
use Rattle.std.proofs.lemmas.Bool.{and_parts}
use Rattle.xq_ast.specs.Everywhere as ev
use Rattle.xq_ast.specs.Documents.{documents}
use Rattle.xq_ast.specs.GoodNames.{naming, are_good_in, are_good_in_update}
use Rattle.xq_ast.specs.Names.{is_name, is_document_name}
use Rattle.xq_ast.specs.declared.code.Code.{Code}
use Rattle.xq_ast.specs.declared.code.Code.TheVariants.{XQTY0024, XQDY0025}
use Rattle.xq_ast.specs.declared.tree.Expr.{Expr}
use Rattle.xq_ast.specs.declared.update.Update.{Update}
use Rattle.xq_ast.specs.declared.update.Update.TheVariants as update
use Rattle.xml_model.specs.declared.edit.EditKind.{EditKind}
use Rattle.xml_model.specs.declared.edit.EditKind.TheVariants as edit
use Rattle.xml_model.specs.declared.node.Attr.{Attr}
use Rattle.xml_model.specs.declared.node.Node.{Node, out-Node}
use Rattle.xml_model.specs.declared.node.Node.TheOpen.{Node-F}
use Rattle.xml_model.specs.Constructors.{Piece, has_late_attribute, has_name_twice, attributes_of, children_of, content_of}
use Rattle.xml_model.specs.Edits.{Change, Content, targets_of, as_content, nodes_alone, attributes_alone, without_attributes, into_layer, into, beside, unless_document, in_place_of, renamed_layer, renamed, outermost, goes_on, names_twice, element_of, named_once, standing_at, each, each_alone, content, targets, insert_into, insert_beside, delete, replaced, changes}
use Rattle.xml_model.specs.Evaluation.{meaning}
use Rattle.xml_model.specs.Forest.{Forest, IsForest}
use Rattle.xml_model.specs.GoodEdits.{are_named, are_formed_alone, brings_formed}
use Rattle.xml_model.specs.Items.{Documents, stored, node, Items, Made, Making, plain, look, then_with, ◌>>=◌, ◌>>?◌}
use Rattle.xml_model.specs.Nav.{Stored}
use Rattle.xml_model.specs.Place.{Placed, the_document, a_node, an_attribute}
use Rattle.xml_model.specs.Tuples.{Bindings}
use Rattle.xml_model.proofs.Alike.{Each, each_append, each_gives, Any}
use Rattle.xml_model.proofs.Contents.{content_formed}
use Rattle.xml_model.proofs.Depths.{size, fits_at_size}
use Rattle.xml_model.proofs.Formed.{AllFormed, node_holds}
use Rattle.xml_model.proofs.Keeping.{EndsWith}
use Rattle.xml_model.proofs.QueryTrees.{stay_within}
use Rattle.xml_model.proofs.WellFormed.{IsNamed, IsWellFormed, AreDocuments, forest_documents}

-- ---- content

named_all : (attrs : List Attr) → Each IsNamed attrs → IsTrue (are_named attrs)
named_all [] h = refl
named_all (a ∷ attrs) h = λ i. h.0 i && named_all attrs h.1 i

formed_all : (kids : List Node) → AllFormed kids → IsTrue (are_formed_alone kids)
formed_all [] h = refl
formed_all (n ∷ kids) h = λ i. node_holds n h.0 i && formed_all kids h.1 i

-- content whose attributes have names and whose nodes are well-formed
abbrev GoodContent : Content → Type 0
GoodContent c = IsTrue (are_named c.attrs) × IsTrue (are_formed_alone c.kids)

-- what an edit brings is well-formed
abbrev Good : EditKind → Type 0
Good what = IsTrue (brings_formed what)

-- a value with the property, or any code
abbrev Right : {A : Type 0} → (A → Type 0) → Result A Code → Type 0
Right G (Ok x) = G x
Right G (Err code) = Unit {0}

as_content_right : (ps : List Piece) → Each IsNamed (attributes_of ps) → AllFormed (children_of ps) → Right GoodContent (as_content ps)
as_content_right ps named formed = late (has_late_attribute false ps) (has_name_twice (attributes_of ps))
  where
    late : (b c : Bool) → Right GoodContent
        (if b then Err XQTY0024 else (if c then Err XQDY0025 else Ok (record { attrs = attributes_of ps; kids = children_of ps })))
    late true c = tt
    late false true = tt
    late false false = (named_all (attributes_of ps) named, formed_all (children_of ps) formed)

both : (a b : Bool) → IsTrue a → IsTrue b → IsTrue (a && b)
both a b h g = λ i. h i && g i

nodes_right : (attrs : List Attr) (kids : List Node) (make : List Node → EditKind) → ((ns : List Node) → IsTrue (are_formed_alone ns) → Good (make ns))
    → IsTrue (are_formed_alone kids) → Right Good (nodes_alone attrs kids >>? (λ ns. Ok (make ns)))
nodes_right [] kids make h formed = h kids formed
nodes_right (a ∷ attrs) kids make h formed = tt

attributes_right : (attrs : List Attr) (kids : List Node) → IsTrue (are_named attrs)
    → Right Good (attributes_alone attrs kids >>? (λ named. Ok (edit.Put named [])))
attributes_right attrs [] g = both (are_named attrs) true g refl
attributes_right attrs (n ∷ kids) g = tt

into_layer_right : (c : Content) (l : Node-F Node) → GoodContent c → Right Good (into_layer c l)
into_layer_right c (Node-F.Element name attrs kids) g = test (has_name_twice (attrs ++ c.attrs))
  where
    test : (b : Bool) → Right Good (if b then Err XQDY0025 else Ok (edit.Into c.attrs c.kids))
    test true = tt
    test false = both (are_named c.attrs) (are_formed_alone c.kids) g.0 g.1
into_layer_right c (Node-F.Text value) g = tt
into_layer_right c (Node-F.Pi target value) g = tt

into_right : (c : Content) (it : Placed) → GoodContent c → Right Good (into c it)
into_right c (the_document d) g = nodes_right c.attrs c.kids (λ kids. edit.Into [] kids) (λ ns h. h) g.1
into_right c (a_node n) g = into_layer_right c (out-Node n) g
into_right c (an_attribute a) g = tt

beside_right : (put : EditKind) (it : Placed) → Good put → Right Good (beside put it)
beside_right put (the_document d) g = tt
beside_right put (a_node n) g = g
beside_right put (an_attribute a) g = tt

unless_right : (what : EditKind) (it : Placed) → Good what → Right Good (unless_document what it)
unless_right what (the_document d) g = tt
unless_right what (a_node n) g = g
unless_right what (an_attribute a) g = g

in_place_right : (c : Content) (it : Placed) → GoodContent c → Right Good (in_place_of c it)
in_place_right c (the_document d) g = tt
in_place_right c (a_node n) g = nodes_right c.attrs c.kids (λ kids. edit.Put [] kids) (λ ns h. h) g.1
in_place_right c (an_attribute a) g = attributes_right c.attrs c.kids g.0

renamed_layer_right : (name : List ℕ) (l : Node-F Node) → IsTrue (is_name name) → Right Good (renamed_layer name l)
renamed_layer_right name (Node-F.Element old attrs kids) g = g
renamed_layer_right name (Node-F.Text value) g = tt
renamed_layer_right name (Node-F.Pi target value) g = g

renamed_right : (name : List ℕ) (it : Placed) → IsTrue (is_name name) → Right Good (renamed name it)
renamed_right name (the_document d) g = tt
renamed_right name (a_node n) g = renamed_layer_right name (out-Node n) g
renamed_right name (an_attribute a) g = g

-- ---- makings

-- a value with the property and well-formed trees, or any code
abbrev RightWith : {A : Type 0} → (A → Type 0) → Result (A × Made) Code → Type 0
RightWith G (Ok both) = G both.0 × Each IsWellFormed both.1
RightWith G (Err code) = Unit {0}

-- from well-formed trees
abbrev Brings : {A : Type 0} → (A → Type 0) → Making A → Type 0
Brings G m = (made : Made) → Each IsWellFormed made → RightWith G (m made)

then_right : {A B : Type 0} (G : A → Type 0) (H : B → Type 0) (f : A → Making B) → ((x : A) → G x → Brings H (f x))
    → (r : Result (A × Made) Code) → RightWith G r → RightWith H (then_with r f)
then_right G H f h (Ok both) g = h both.0 g.0 both.1 g.1
then_right G H f h (Err code) g = tt

then_brings : {A B : Type 0} (G : A → Type 0) (H : B → Type 0) (m : Making A) (f : A → Making B) → Brings G m
    → ((x : A) → G x → Brings H (f x)) → Brings H (m >>= f)
then_brings G H m f g h made w = then_right G H f h (m made) (g made w)

plain_right : {A : Type 0} (G : A → Type 0) (r : Result A Code) (made : Made) → Right G r → Each IsWellFormed made → RightWith G (plain r made)
plain_right G (Ok x) made g w = (g, w)
plain_right G (Err code) made g w = tt

plain_brings : {A : Type 0} (G : A → Type 0) (r : Result A Code) → Right G r → Brings G (plain r)
plain_brings G r g made w = plain_right G r made g w

any_right : {A : Type 0} (r : Result A Code) → Right Any r
any_right (Ok x) = tt
any_right (Err code) = tt

module _ (docs : Documents) (d : AreDocuments docs) where
  -- ---- expressions

  abbrev W : Placed → Type 0
  W root = Unit {0} → IsWellFormed root

  ends_right : (r : Result (Items × Made) Code) → EndsWith W Any r → RightWith Any r
  ends_right (Ok found) h = (tt, each_gives W IsWellFormed (λ root f. f tt) found.1 h.1)
  ends_right (Err code) h = tt

  good_everywhere : (e : Expr) → IsTrue (are_good_in e) → ev.everywhere naming e ≡ true
  good_everywhere e good = (and_parts (list_all is_document_name (documents e)) (ev.everywhere naming e) good).1

  -- an expression leaves well-formed trees
  means_brings : (e : Expr) → IsTrue (are_good_in e) → (env : Bindings) → Brings Any (meaning docs e env None)
  means_brings e good env made w =
      ends_right (meaning docs e env None made)
      (stay_within docs (Unit {0}) (λ _. d) (size e) e (fits_at_size e) (λ _. good_everywhere e good) env None made
      (each_gives IsWellFormed W (λ root f _. f) made w))

  content_brings : (e : Expr) → IsTrue (are_good_in e) → (env : Bindings) → Brings GoodContent (content docs (meaning docs e) env)
  content_brings e good env =
      then_brings Any GoodContent (meaning docs e env None) (λ items. look (λ made. as_content (content_of docs made items))) (means_brings e good env)
      (λ items _ made w. plain_right GoodContent (as_content (content_of docs made items)) made
      (let f = content_formed docs made d w items in as_content_right (content_of docs made items) f.0 f.1) w)

  targets_bring : (e : Expr) → IsTrue (are_good_in e) → Brings Any (targets docs (meaning docs e))
  targets_bring e good =
      then_brings Any Any (meaning docs e [] None) (λ items. plain (targets_of items)) (means_brings e good [])
      (λ items _. plain_brings Any (targets_of items) (any_right (targets_of items)))

  -- ---- target by target

  abbrev GoodChanges : List Change → Type 0
  GoodChanges = Each (λ (c : Change). Good c.what)

  each_brings : (go : List Change → Stored → List Stored → Making EditKind)
      → ((done : List Change) (n : Stored) (more : List Stored) → Brings Good (go done n more))
      → (done : List Change) (ns : List Stored) → GoodChanges done → Brings GoodChanges (each docs go done ns)
  each_brings go h done [] g = λ made w. (g, w)
  each_brings go h done (n ∷ ns) g =
      then_brings Good GoodChanges (go done n ns) (λ what. each docs go (done ++ record { node = n; what = what } ∷ []) ns) (h done n ns)
      (λ what good. each_brings go h (done ++ record { node = n; what = what } ∷ []) ns
      (each_append (λ (c : Change). Good c.what) done (record { node = n; what = what } ∷ []) g (good, tt)))

  alone_brings : (may : Placed → Result EditKind Code) → ((it : Placed) → Right Good (may it)) → (ns : List Stored)
      → Brings GoodChanges (each_alone docs may ns)
  alone_brings may h ns =
      each_brings (λ done n more. plain (may (standing_at docs n)))
      (λ done n more. plain_brings Good (may (standing_at docs n)) (h (standing_at docs n))) [] ns tt

  once_right : (done : List Change) (ns : List Stored) (c : Change) → Good c.what → Right Good (named_once docs done ns c)
  once_right done ns c g = test (goes_on c.node ns) (names_twice docs (done ++ c ∷ []) (element_of c.node))
    where
      test : (a b : Bool) → Right Good (if a then Ok c.what else (if b then Err XQDY0025 else Ok c.what))
      test true b = g
      test false true = tt
      test false false = g

  named_right : (r : Result EditKind Code) (done : List Change) (n : Stored) (ns : List Stored) → Right Good r
      → Right Good (r >>? (λ what. named_once docs done ns (record { node = n; what = what })))
  named_right (Ok what) done n ns g = once_right done ns (record { node = n; what = what }) g
  named_right (Err code) done n ns g = tt

  -- the variable of a replacement, bound to the target
  abbrev bound_to : List ℕ → Stored → Bindings
  bound_to name m = record { name = name; value = node (record { tree = stored m.name; place = m.place }) ∷ [] } ∷ []

  replaced_brings : (name : List ℕ) (by : Expr) → IsTrue (are_good_in by) → (done : List Change) (n : Stored) (more : List Stored)
      → Brings Good (replaced docs name (meaning docs by) done n more)
  replaced_brings name by good done n more =
      let own = unless_document edit.Delete (standing_at docs n) >>? (λ _. outermost done n) in
      then_brings Any Good (plain own) _ (plain_brings Any own (any_right own)) (λ m _.
      then_brings GoodContent Good (content docs (meaning docs by) (bound_to name m)) _
      (content_brings by good (bound_to name m)) (λ c g.
      plain_brings Good (in_place_of c (standing_at docs m) >>? (λ what. named_once docs done more (record { node = m; what = what })))
      (named_right (in_place_of c (standing_at docs m)) done m more (in_place_right c (standing_at docs m) g))))

  renamed_brings : (name : List ℕ) → IsTrue (is_name name) → (done : List Change) (n : Stored) (more : List Stored)
      → Brings Good (plain (renamed name (standing_at docs n) >>? (λ what. named_once docs done more (record { node = n; what = what }))))
  renamed_brings name good done n more =
      plain_brings Good (renamed name (standing_at docs n) >>? (λ what. named_once docs done more (record { node = n; what = what })))
      (named_right (renamed name (standing_at docs n)) done n more (renamed_right name (standing_at docs n) good))

  -- ---- the forms

  into_brings : (source target : Expr) → IsTrue (are_good_in source) → IsTrue (are_good_in target)
      → Brings GoodChanges (insert_into docs (meaning docs source) (meaning docs target))
  into_brings source target s t =
      then_brings GoodContent GoodChanges (content docs (meaning docs source) []) _ (content_brings source s []) (λ c g.
      then_brings Any GoodChanges (targets docs (meaning docs target)) (each_alone docs (into c)) (targets_bring target t)
      (λ ns _. alone_brings (into c) (λ it. into_right c it g) ns))

  kids_right : (attrs : List Attr) (kids : List Node) → IsTrue (are_formed_alone kids)
      → Right (λ ns. IsTrue (are_formed_alone ns)) (nodes_alone attrs kids)
  kids_right [] kids g = g
  kids_right (a ∷ attrs) kids g = tt

  beside_brings : (put : List Node → EditKind) → ((kids : List Node) → IsTrue (are_formed_alone kids) → Good (put kids)) → (source target : Expr)
      → IsTrue (are_good_in source) → IsTrue (are_good_in target)
      → Brings GoodChanges (insert_beside docs put (meaning docs source) (meaning docs target))
  beside_brings put h source target s t =
      then_brings GoodContent GoodChanges (content docs (meaning docs source) []) _ (content_brings source s []) (λ c g.
      then_brings Any GoodChanges (targets docs (meaning docs target)) _ (targets_bring target t) (λ ns _.
      then_brings (λ kids. IsTrue (are_formed_alone kids)) GoodChanges (plain (without_attributes c)) (λ kids. each_alone docs (beside (put kids)) ns)
      (plain_brings (λ kids. IsTrue (are_formed_alone kids)) (without_attributes c) (kids_right c.attrs c.kids g.1))
      (λ kids formed. alone_brings (beside (put kids)) (λ it. beside_right (put kids) it (h kids formed)) ns)))

  delete_brings : (what : EditKind) → Good what → (target : Expr) → IsTrue (are_good_in target)
      → Brings GoodChanges (delete docs what (meaning docs target))
  delete_brings what g target t =
      then_brings Any GoodChanges (targets docs (meaning docs target)) (each_alone docs (unless_document what)) (targets_bring target t)
      (λ ns _. alone_brings (unless_document what) (λ it. unless_right what it g) ns)

  two : (a b : Expr) → IsTrue (are_good_in a && are_good_in b) → IsTrue (are_good_in a) × IsTrue (are_good_in b)
  two a b good = and_parts (are_good_in a) (are_good_in b) good

  changes_bring : (what : Update) → IsTrue (are_good_in_update what) → Brings GoodChanges (changes docs what)
  changes_bring (update.Into source target) good = into_brings source target (two source target good).0 (two source target good).1
  changes_bring (update.Preceding source target) good =
      beside_brings edit.Before (λ kids h. h) source target (two source target good).0 (two source target good).1
  changes_bring (update.Following source target) good =
      beside_brings edit.After (λ kids h. h) source target (two source target good).0 (two source target good).1
  changes_bring (update.Delete target) good = delete_brings edit.Delete refl target good
  changes_bring (update.DeleteUndeep target) good = delete_brings edit.Undeep refl target good
  changes_bring (update.Replace name target by) good =
      then_brings Any GoodChanges (targets docs (meaning docs target)) _ (targets_bring target (two target by good).0)
      (λ ns _. each_brings (replaced docs name (meaning docs by)) (replaced_brings name by (two target by good).1) [] ns tt)
  changes_bring (update.Rename target name) good =
      let parts = and_parts (are_good_in target) (is_name name) good in
      then_brings Any GoodChanges (targets docs (meaning docs target)) _ (targets_bring target parts.0)
      (λ ns _. each_brings _ (renamed_brings name parts.1) [] ns tt)

-- each change of an update brings what is well-formed
pub brought : (F : Forest) (what : Update) (cs : List Change) (after : Made) → IsForest F → IsTrue (are_good_in_update what)
    → changes (forests.get F) what [] ≡ Ok (cs, after) → Each (λ (c : Change). IsTrue (brings_formed c.what)) cs
brought F what cs after valid good is =
    (subst (RightWith (Each (λ (c : Change). Good c.what))) is (changes_bring (forests.get F) (forest_documents F valid) what good [] tt)).0
