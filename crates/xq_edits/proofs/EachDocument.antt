-- The edits of each document of an update keep that document well-formed, where each change brings what is well-formed.
use Rattle.std.proofs.Common.{◌≡◌, ℕ, Bool, true, false, ◌&&◌, if◌then◌else◌, IsTrue, IfSome, List, [], ◌∷◌, ◌++◌, Option, None, Some, Result, Ok, Err, refl, sym, ap, subst, ◌∙◌}
use Rattle.std.specs.Prelude.{cond}
use Rattle.std.specs.FinMap as fin_map
use Rattle.std.specs.FinMap.{find}
use Rattle.std.specs.Ordering.{is_eq, ordering_reverse}
use Rattle.std.specs.Str.{bytes_eq}
use Rattle.std.specs.declared.cmp.Ordering.{Ordering}
use Rattle.std.specs.declared.cmp.Ordering.TheVariants.{Less, Equal, Greater}
use Rattle.std.proofs.lemmas.Slice.Eq.{bytes_eq-Decides}
use Rattle.xq_ast.specs.declared.code.Code.{Code}
use Rattle.xq_ast.specs.declared.update.Update.{Update}
use Rattle.xml_model.specs.declared.edit.EditKind.{EditKind}
use Rattle.xml_model.specs.declared.node.Doc.{Doc}
use Rattle.xml_model.specs.declared.place.PlaceStep.{PlaceStep}
use Rattle.xml_model.specs.Edits.{Change, DocumentEdits, done_in, by_document, rebuilt_there, changes}
use Rattle.xml_model.specs.Forest.{Forest, IsForest}
use Rattle.xml_model.specs.Constructors.{has_name_twice}
use Rattle.xml_model.specs.GoodEdits.{KeepForm, brings_formed, with_more}
use Rattle.xml_model.specs.Items.{Made, ◌>>?◌}
use Rattle.xml_model.specs.Place.{place_cmp, attrs_of}
use Rattle.xml_model.specs.Rebuild.{Edits, EditsIn, rebuild, edited_attributes}
use Rattle.xml_model.proofs.Alike.{Each}
use Rattle.xml_model.proofs.Framing.{get-beside}
use Rattle.xml_model.proofs.Lines.{same_bytes}
use Rattle.xml_model.proofs.PlaceTotal.{place_total}
use Rattle.xq_edits.proofs.ByDocument.{changes_in, all_changes, all_of_them}
use Rattle.xq_edits.proofs.NamesOnce.{found_there}
use Rattle.xq_edits.proofs.UpdateForm.{KeepsThere, KeepEach}
use Rattle.xq_edits.proofs.UpdateNames.{names_differ}

-- ---- names that differ

-- the name is that of none of these documents
abbrev pub IsOther : List ℕ → List DocumentEdits → Type 0
IsOther name = Each (λ (d : DocumentEdits). bytes_eq name d.name ≡ false)

-- no two documents have one name
abbrev pub AreApart : List DocumentEdits → Type 0
AreApart [] = Unit {0}
AreApart (d ∷ ds) = IsOther d.name ds × AreApart ds

-- ---- what is done at the places of each document

turned : (r : Ordering) → is_eq (ordering_reverse r) ≡ is_eq r
turned Less = refl
turned Equal = refl
turned Greater = refl

same_test : (p q : List PlaceStep) → is_eq (place_cmp p q) ≡ is_eq (place_cmp q p)
same_test p q = ap is_eq (place_total.antisymm p q) ∙ turned (place_cmp q p)

-- the first edit at the place, and after these edits what is done by the changes that follow
in_one : (name : List ℕ) (es : List (List PlaceStep × EditKind)) (more : List Change) (place : List PlaceStep) → done_in name more place ≡ None
    → done_in name (changes_in name es ++ more) place ≡ find place_cmp place es
in_one name [] more place none = none
in_one name (e ∷ es) more place none =
    ap (λ b. if b && is_eq (place_cmp e.0 place) then Some e.1 else done_in name (changes_in name es ++ more) place) (same_bytes name)
    ∙ (ap (λ b. if b then Some e.1 else done_in name (changes_in name es ++ more) place) (same_test e.0 place)
    ∙ by_case (is_eq (place_cmp place e.0)) (in_one name es more place none))
  where
    by_case : (b : Bool) → done_in name (changes_in name es ++ more) place ≡ find place_cmp place es
        → (if b then Some e.1 else done_in name (changes_in name es ++ more) place) ≡ cond b (Some e.1) (find place_cmp place es)
    by_case true h = refl
    by_case false h = h

-- edits of a document of another name do not count
in_other : (name other : List ℕ) (es : List (List PlaceStep × EditKind)) (more : List Change) (place : List PlaceStep) → bytes_eq other name ≡ false
    → done_in name (changes_in other es ++ more) place ≡ done_in name more place
in_other name other [] more place apart = refl
in_other name other (e ∷ es) more place apart =
    ap (λ b. if b && is_eq (place_cmp e.0 place) then Some e.1 else done_in name (changes_in other es ++ more) place) apart ∙ in_other name other es more place apart

bytes_turn : (a b : List ℕ) → bytes_eq a b ≡ false → bytes_eq b a ≡ false
bytes_turn a b h =
    elim (bytes_eq b a) as (λ c. bytes_eq b a ≡ c → c ≡ false) [
      | true ↦ λ same. sym (same_bytes a) ∙ (ap (bytes_eq a) (sym ((bytes_eq-Decides b a).0 same)) ∙ h)
      | false ↦ λ other. refl
    ] refl

in_none : (name : List ℕ) (ds : List DocumentEdits) (place : List PlaceStep) → IsOther name ds → done_in name (all_changes ds) place ≡ None
in_none name [] place h = refl
in_none name (d ∷ ds) place h = in_other name d.name d.edits (all_changes ds) place (bytes_turn name d.name h.0) ∙ in_none name ds place h.1

-- what is done at the places of a document is what its edits say
abbrev Told : List Change → DocumentEdits → Type 0
Told cs d = (place : List PlaceStep) → done_in d.name cs place ≡ find place_cmp place d.edits

told_behind : (d : DocumentEdits) (cs : List Change) (ds : List DocumentEdits) → IsOther d.name ds → Each (Told cs) ds → Each (Told (changes_in d.name d.edits ++ cs)) ds
told_behind d cs [] h told = tt
told_behind d cs (e ∷ ds) h told = ((λ place. in_other e.name d.name d.edits cs place h.0 ∙ told.0 place), told_behind d cs ds h.1 told.1)

all_told : (ds : List DocumentEdits) → AreApart ds → Each (Told (all_changes ds)) ds
all_told [] h = tt
all_told (d ∷ ds) h =
    ((λ place. in_one d.name d.edits (all_changes ds) place (in_none d.name ds place h.0)), told_behind d (all_changes ds) ds h.0 (all_told ds h.1))

-- ---- each document in its turn

keeps_at : (d : DocumentEdits) (o p : Option Doc) → o ≡ p → KeepsThere d o → KeepsThere d p
keeps_at d o p e h = subst (KeepsThere d) e h

made_beside : (F G : Forest) (d : DocumentEdits) (made : Result Doc Code) (q : List ℕ) → bytes_eq d.name q ≡ false
    → (made >>? (λ new. Ok (fin_map.insert F d.name new))) ≡ Ok G → fin_map.get F q ≡ fin_map.get G q
made_beside F G d (Ok new) q other e = sym (get-beside F d.name q new other) ∙ ap (λ H. fin_map.get H q) (same_forest (fin_map.insert F d.name new) G e)
  where
    forest_or : Forest → Result Forest Code → Forest
    forest_or H (Ok K) = K
    forest_or H (Err code) = H

    same_forest : (H K : Forest) → ◌≡◌ {A = Result Forest Code} (Ok H) (Ok K) → H ≡ K
    same_forest H K e = ap (forest_or H) e
made_beside F G d (Err code) q other e = absurd (refused e)
  where
    is_ok : Result Forest Code → Type 0
    is_ok (Ok K) = Unit {0}
    is_ok (Err code) = ⊥

    refused : ◌≡◌ {A = Result Forest Code} (Err code) (Ok G) → ⊥
    refused e = subst is_ok (sym e) tt

there_beside : (F G : Forest) (d : DocumentEdits) (o : Option Doc) (q : List ℕ) → bytes_eq d.name q ≡ false → rebuilt_there F d o ≡ Ok G → fin_map.get F q ≡ fin_map.get G q
there_beside F G d None q other e = ap (λ H. fin_map.get H q) (same_forest F G e)
  where
    forest_or : Forest → Result Forest Code → Forest
    forest_or H (Ok K) = K
    forest_or H (Err code) = H

    same_forest : (H K : Forest) → ◌≡◌ {A = Result Forest Code} (Ok H) (Ok K) → H ≡ K
    same_forest H K e = ap (forest_or H) e
there_beside F G d (Some doc) q other e = made_beside F G d (rebuild doc (fin_map.from_entries d.edits)) q other e

each_beside : (F G : Forest) (d : DocumentEdits) (ds : List DocumentEdits) → IsOther d.name ds → rebuilt_there F d (fin_map.get F d.name) ≡ Ok G
    → Each (λ (e : DocumentEdits). KeepsThere e (fin_map.get F e.name)) ds → Each (λ (e : DocumentEdits). KeepsThere e (fin_map.get G e.name)) ds
each_beside F G d [] h made keep = tt
each_beside F G d (e ∷ ds) h made keep =
    (keeps_at e (fin_map.get F e.name) (fin_map.get G e.name) (there_beside F G d (fin_map.get F d.name) e.name h.0 made) keep.0, each_beside F G d ds h.1 made keep.1)

-- documents of different names are each as they were, when their turn comes
keep_each : (F : Forest) (ds : List DocumentEdits) → AreApart ds → Each (λ (d : DocumentEdits). KeepsThere d (fin_map.get F d.name)) ds → KeepEach F ds
keep_each F [] h keep = tt
keep_each F (d ∷ ds) h keep = (keep.0, λ G made. keep_each G ds h.1 (each_beside F G d ds h.0 made keep.1))

-- ---- an update

-- what is brought, place by place
some_brought : (o : Option EditKind) → IfSome o (λ what. IsTrue (brings_formed what)) → (p : Option EditKind) → o ≡ p → IfSome p (λ what. IsTrue (brings_formed what))
some_brought o h p e = subst (λ q. IfSome q (λ what. IsTrue (brings_formed what))) e h

-- the edits of a document as a map
abbrev edits_of : DocumentEdits → Edits
edits_of d = fin_map.from_entries d.edits

module _ (F : Forest) (valid : IsForest F) (what : Update) (cs : List Change) (after : Made) (asked : changes (fin_map.get F) what [] ≡ Ok (cs, after))
    (brought : Each (λ (c : Change). IsTrue (brings_formed c.what)) cs) where
  keeps_doc : (d : DocumentEdits) (doc : Doc) → fin_map.get F d.name ≡ Some doc → Told cs d → KeepForm doc (fin_map.get (edits_of d))
  keeps_doc d doc found told =
      let at : (place : List PlaceStep) → done_in d.name cs place ≡ fin_map.get (edits_of d) place =
      λ place. told place ∙ sym (fin_map.get-from_entries place_total d.edits place) in
      record {
        bring = λ place. some_brought (done_in d.name cs place) (found_there (λ n w. IsTrue (brings_formed w)) d.name place cs brought)
            (fin_map.get (edits_of d) place) (at place);
        once = λ place from is. subst (λ (f : EditsIn). has_name_twice (with_more (edited_attributes (λ steps. f (place ++ steps)) 0 (attrs_of from)) (f place)) ≡ false)
            (λ i place. at place i) (names_differ F valid d.name doc found place from is what (cs, after) asked);
      }

  keeps_there : (d : DocumentEdits) (o : Option Doc) → fin_map.get F d.name ≡ o → Told cs d → KeepsThere d o
  keeps_there d None e told = tt
  keeps_there d (Some doc) e told = keeps_doc d doc e told

  each_keeps : (ds : List DocumentEdits) → Each (Told cs) ds → Each (λ (d : DocumentEdits). KeepsThere d (fin_map.get F d.name)) ds
  each_keeps [] told = tt
  each_keeps (d ∷ ds) told = (keeps_there d (fin_map.get F d.name) refl told.0, each_keeps ds told.1)

  -- the edits of each document keep the one of its name well-formed, where no two documents have one name
  pub documents_keep : AreApart (by_document cs) → Each (λ (d : DocumentEdits). KeepsThere d (fin_map.get F d.name)) (by_document cs)
  documents_keep apart = each_keeps (by_document cs) (subst (λ xs. Each (Told xs) (by_document cs)) (all_of_them cs) (all_told (by_document cs) apart))

  -- and so each in its turn
  pub edits_keep : AreApart (by_document cs) → KeepEach F (by_document cs)
  edits_keep apart = keep_each F (by_document cs) apart (documents_keep apart)
