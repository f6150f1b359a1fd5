-- The forest after changes: where two forests have the same documents at some names, and all changes are of documents of such
-- names, they have the same documents there afterwards, or end with one code; and each other name keeps its document.
use Rattle.std.specs.Prelude.{◌≡◌, ℕ, Bool, true, false, cond, if◌then◌else◌, List, [], ◌∷◌, bytes_eq, Option, None, Some, Result, Ok, Err, refl}
use Rattle.std.specs.FinMap as forests
use Rattle.std.specs.Cmp.Lexicographic.{slice_cmp, nat_list_cmp_total}
use Rattle.std.specs.Ordering.{nat_cmp, eq_by_cmp}
use Rattle.std.proofs.Common.{sym, ap, subst, ◌∙◌}
use Rattle.xq_ast.specs.declared.code.Code.{Code}
use Rattle.xml_model.specs.declared.node.Doc.{Doc}
use Rattle.xml_model.specs.Edits.{Change, DocumentEdits, with_change, by_document, rebuilt_there, rebuilt_all}
use Rattle.xml_model.specs.Forest.{Forest}
use Rattle.xml_model.specs.Items.{◌>>?◌}
use Rattle.xml_model.specs.Rebuild.{rebuild}
use Rattle.xml_model.proofs.Alike.{Each, Fine, fine_then}
use Rattle.xml_model.proofs.Framing.{get-beside}

-- ---- documents of changes

module _ (A : List ℕ → Type 0) where
  -- edits of documents whose names have the property
  abbrev pub EditsOf : List DocumentEdits → Type 0
  EditsOf = Each (λ d. A d.name)

  with_change_of : (c : Change) → A c.node.name → (ds : List DocumentEdits) → EditsOf ds → EditsOf (with_change c ds)
  with_change_of c a [] h = (a, tt)
  with_change_of c a (d ∷ ds) h = choice (bytes_eq c.node.name d.name)
    where
      choice : (b : Bool) → EditsOf (if b then record { name = d.name; edits = (c.node.place, c.what) ∷ d.edits } ∷ ds else
          record { name = c.node.name; edits = (c.node.place, c.what) ∷ [] } ∷ d ∷ ds)
      choice true = (h.0, h.1)
      choice false = (a, h)

  -- the documents of changes have the names of their nodes
  pub by_document_of : (cs : List Change) → Each (λ c. A c.node.name) cs → EditsOf (by_document cs)
  by_document_of [] h = tt
  by_document_of (c ∷ cs) h = with_change_of c h.0 (by_document cs) (by_document_of cs h.1)

  -- ---- two forests

  -- the same documents, or none, at such names
  abbrev pub AgreeWhere : Forest → Forest → Type 0
  AgreeWhere F G = (q : List ℕ) → A q → forests.get F q ≡ forests.get G q

  -- forests that agree there, or one code
  abbrev pub EndAlike : Result Forest Code → Result Forest Code → Type 0
  EndAlike (Ok F) (Ok G) = AgreeWhere F G
  EndAlike (Ok F) (Err code) = ⊥
  EndAlike (Err code) (Ok G) = ⊥
  EndAlike (Err code) (Err other) = code ≡ other

  then_alike : (next next' : Forest → Result Forest Code) → ((F G : Forest) → AgreeWhere F G → EndAlike (next F) (next' G))
      → (r r' : Result Forest Code) → EndAlike r r' → EndAlike (r >>? next) (r' >>? next')
  then_alike next next' h (Ok F) (Ok G) g = h F G g
  then_alike next next' h (Ok F) (Err code) g = absurd g
  then_alike next next' h (Err code) (Ok G) g = absurd g
  then_alike next next' h (Err code) (Err other) g = g

  put_alike : (F G : Forest) (name : List ℕ) (doc : Doc) → AgreeWhere F G → AgreeWhere (forests.insert F name doc) (forests.insert G name doc)
  put_alike F G name doc same q a =
      forests.get-insert nat_list_cmp_total F name doc q
      ∙ ap (cond (eq_by_cmp (slice_cmp nat_cmp) q name) (Some doc)) (same q a)
      ∙ sym (forests.get-insert nat_list_cmp_total G name doc q)

  made_alike : (F G : Forest) (name : List ℕ) (r : Result Doc Code) → AgreeWhere F G
      → EndAlike (r >>? (λ new. Ok (forests.insert F name new))) (r >>? (λ new. Ok (forests.insert G name new)))
  made_alike F G name (Ok new) same = put_alike F G name new same
  made_alike F G name (Err code) same = refl

  there_alike : (F G : Forest) (d : DocumentEdits) (o : Option Doc) → AgreeWhere F G → EndAlike (rebuilt_there F d o) (rebuilt_there G d o)
  there_alike F G d None same = same
  there_alike F G d (Some doc) same = made_alike F G d.name (rebuild doc (forests.from_entries d.edits)) same

  -- forests that agree at such names agree after edits of documents of such names, or the edits have one code
  pub rebuilt_alike : (F G : Forest) (ds : List DocumentEdits) → EditsOf ds → AgreeWhere F G → EndAlike (rebuilt_all F ds) (rebuilt_all G ds)
  rebuilt_alike F G [] h same = same
  rebuilt_alike F G (d ∷ ds) h same =
      then_alike (λ H. rebuilt_all H ds) (λ H. rebuilt_all H ds) (λ H K k. rebuilt_alike H K ds h.1 k)
      (rebuilt_there F d (forests.get F d.name)) (rebuilt_there G d (forests.get G d.name))
      (subst (λ o. EndAlike (rebuilt_there F d (forests.get F d.name)) (rebuilt_there G d o)) (same d.name h.0) (there_alike F G d (forests.get F d.name) same))

-- ---- other names

module _ (q : List ℕ) where
  -- the name has another
  abbrev pub IsOther : List ℕ → Type 0
  IsOther name = bytes_eq name q ≡ false

  -- the document of the name, or none, as it was in the forest
  abbrev pub HasAs : Forest → Forest → Type 0
  HasAs F G = forests.get G q ≡ forests.get F q

  there_keeps : (F : Forest) (d : DocumentEdits) → IsOther d.name → (o : Option Doc) → Fine (HasAs F) (rebuilt_there F d o)
  there_keeps F d other None = refl
  there_keeps F d other (Some doc) = put_keeps (rebuild doc (forests.from_entries d.edits))
    where
      put_keeps : (r : Result Doc Code) → Fine (HasAs F) (r >>? (λ new. Ok (forests.insert F d.name new)))
      put_keeps (Ok new) = get-beside F d.name q new other
      put_keeps (Err code) = tt

  -- edits of documents of other names keep the document of the name
  pub rebuilt_keeps : (F : Forest) (ds : List DocumentEdits) → EditsOf IsOther ds → Fine (HasAs F) (rebuilt_all F ds)
  rebuilt_keeps F [] h = refl
  rebuilt_keeps F (d ∷ ds) h =
      fine_then (HasAs F) (HasAs F) (λ G. rebuilt_all G ds) (λ G g. still G g (rebuilt_all G ds) (rebuilt_keeps G ds h.1))
      (rebuilt_there F d (forests.get F d.name)) (there_keeps F d h.0 (forests.get F d.name))
    where
      still : (G : Forest) → HasAs F G → (r : Result Forest Code) → Fine (HasAs G) r → Fine (HasAs F) r
      still G g (Ok H) k = k ∙ g
      still G g (Err code) k = tt
