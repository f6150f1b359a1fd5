-- The test of names, once for each element.
use Rattle.std.proofs.Common.{◌≡◌, ℕ, ◌≤◌, map, drop, length, append-nil, Bool, true, false, List, [], ◌∷◌, ◌++◌, Option, Some, None}
use Rattle.std.proofs.Common.{Result, Ok, Err, IfOk, refl, sym, ap, ◌∙◌}
use Rattle.std.specs.Prelude.{if◌then◌else◌}
use Rattle.std.specs.FinMap as forests
use Rattle.std.specs.Ordering.{is_eq}
use Rattle.std.specs.declared.cmp.Ordering.TheVariants.{Less}
use Rattle.std.proofs.lemmas.List.{drop_all}
use Rattle.xq_ast.specs.declared.code.Code.{Code}
use Rattle.xq_ast.specs.declared.code.Code.TheVariants.{XQDY0025}
use Rattle.xml_model.specs.declared.edit.EditKind.{EditKind}
use Rattle.xml_model.specs.Axes.{attribute_places, nodes_at}
use Rattle.xml_model.specs.Constructors.{has_name_twice}
use Rattle.xml_model.specs.Edits as edits
use Rattle.xml_model.specs.Forest.{Forest}
use Rattle.xml_model.specs.Items.{Documents, ◌>>?◌}
use Rattle.xml_model.specs.Nav.{Stored, parent_of_node}
use Rattle.xml_model.specs.Place.{attrs_of}
use Rattle.xml_model.specs.Rebuild.{edited_attributes}
use Rattle.xml_model.specs.declared.node.Attr.{Attr}
use Rattle.xml_model.specs.DocumentOrder.{node_cmp}
use Rattle.xq_nodes.specs.Joins.{Rises}
use Rattle.xq_nodes.specs.Walks.{is_attribute}
use Rattle.xq_edits.specs.Names.{names_of, names_along, changes_from}
use Rattle.xq_edits.specs.Turns.{nodes_of}
use Rattle.xq_edits.proofs.Attributes.{known}
use Rattle.xq_edits.proofs.Elements.{element_above}
use Rattle.xq_edits.proofs.NamesAlong.{along_is, along_same, names_twice_alike}

-- what is of no element is not tested
pub unnamed : (docs : Documents) (done : List edits.Change) (more : List Stored) (n : Stored) (what : EditKind) → edits.element_of n ≡ None
    → edits.named_once docs done more (record { node = n; what = what }) ≡ Ok what
unnamed docs done more n what e = ap (λ b. if b then Ok what else tested (edits.element_of n)) (alone more) ∙ ap tested e
  where
    alone : (more : List Stored) → edits.goes_on n more ≡ false
    alone [] = refl
    alone (m ∷ more) = ap (λ o. edits.is_same_element o (edits.element_of m)) e

    tested : Option Stored → Result EditKind Code
    tested o = if edits.names_twice docs (done ++ record { node = n; what = what } ∷ []) o then Err XQDY0025 else Ok what

-- a value that is not tested further
pub no_more : (d : Result EditKind Code) (f : EditKind → Result EditKind Code) → ((what : EditKind) → f what ≡ Ok what) → (d >>? f) ≡ d
no_more (Ok what) f h = h what
no_more (Err code) f h = refl

-- the test of names of an element, by its attributes as nodes
pub twice_is : (F : Forest) (e : Stored) (changes : List edits.Change) (last : edits.Change) (all : List Attr)
    → Rises node_cmp (nodes_of changes ++ last.node ∷ [])
    → names_of all ≡ names_along F last changes (nodes_at attribute_places F e) → has_name_twice all ≡ edits.names_twice (forests.get F)
    (changes ++ last ∷ []) (Some e)
twice_is F e changes last all r h =
    let k = known F e (changes ++ last ∷ []) in
    names_twice_alike all (edited_attributes (λ place. edits.done_in e.name (changes ++ last ∷ []) (e.place ++ place)) 0
    (attrs_of (edits.standing_at (forests.get F) e)))
    (h ∙ (along_is F last changes (nodes_at attribute_places F e) k.order r ∙ k.names))

module _ (docs : Documents) (done : List edits.Change) (more : List Stored) (n : Stored) (what : EditKind) where
  abbrev after : Bool → Bool → Result EditKind Code
  after goes twice = if goes then Ok what else (if twice then Err XQDY0025 else Ok what)

  abbrev twice_now : Bool
  twice_now = edits.names_twice docs (done ++ record { node = n; what = what } ∷ []) (edits.element_of n)

  -- else the names of the element decide
  pub tested_last : (e : Stored) (twice : Bool) → edits.element_of n ≡ Some e → edits.goes_on n more ≡ false
      → twice ≡ edits.names_twice docs (done ++ record { node = n; what = what } ∷ []) (Some e)
      → edits.named_once docs done more (record { node = n; what = what }) ≡ (if twice then Err XQDY0025 else Ok what)
  tested_last e twice is goes h =
      ap (λ goes. after goes twice_now) goes
      ∙ ap (λ twice. if twice then Err XQDY0025 else Ok what) (ap (edits.names_twice docs (done ++ record { node = n; what = what } ∷ [])) is ∙ sym h)

-- whether an attribute is of an element, by the node above it
pub of_element : {X : Type 0} (H : Type 0) (F : Forest) (r : Result Bool X) (e a m : Stored) → (H → Some m ≡ parent_of_node F a)
    → IfOk r (λ is. H → is ≡ is_eq (node_cmp e m))
    → IfOk r (λ is. H → is_attribute F a ≡ true → is ≡ edits.is_same_element (Some e) (edits.element_of a))
of_element H F (Ok is) e a m up same = λ h at. same h ∙ ap (edits.is_same_element (Some e)) (sym (element_above F a (Some m) at (up h)))
of_element H F (Err x) e a m up same = tt

-- the names along the attributes of an element, once all have been gone through
pub all_along : {I : Type 0} (F : Forest) (e : Stored) (last : edits.Change) (rest from changes : List edits.Change) (place : I → Stored) (items : List I)
    (i : ℕ) (all : List (List ℕ)) → length items ≤ i → map place items ≡ nodes_at attribute_places F e
    → ((n : Stored) → node_cmp e n ≡ Less → changes_from n from ≡ changes_from n changes)
    → all ++ names_along F last rest (map place (drop i items)) ≡ names_along F last from (map place items)
    → all ≡ names_along F last changes (nodes_at attribute_places F e)
all_along F e last rest from changes place items i all past is same h =
    sym (append-nil all)
    ∙ (ap (λ l. all ++ names_along F last rest (map place l)) (sym (drop_all i items past))
    ∙ (h ∙ (ap (names_along F last from) is ∙ along_same F last e from changes (nodes_at attribute_places F e) same (known F e []).after)))
