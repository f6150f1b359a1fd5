-- What the edits that were found by their numbers make of documents.
use Rattle.std.proofs.Common.{◌≡◌, ℕ, ◌+◌, ◌<◌, Bool, true, false, true≢false, List, [], ◌∷◌, length, map as list_map, Option, None, Some, IsTrue, refl, sym, ap, subst, ◌∙◌, arith}
use Rattle.std.specs.Prelude.{All, bytes_eq, Result, Ok, Err}
use Rattle.std.specs.FinMap as map
use Rattle.std.specs.Ordering.{nat_cmp, is_eq}
use Rattle.std.specs.Cmp.{eq_by_cmp_equiv}
use Rattle.std.specs.Cmp.Lexicographic.{slice_cmp, nat_list_cmp_total}
use Rattle.std.specs.declared.cmp.Ordering.TheVariants.{Less}
use Rattle.std.proofs.lemmas.List.Elements.{All-cons}
use Rattle.std.proofs.lemmas.Slice.Eq.{bytes_eq-Decides}
use Rattle.xq_ast.specs.declared.call.Call.TheVariants.{Update}
use Rattle.xq_ast.specs.declared.code.Code.{Code}
use Rattle.xq_ast.specs.declared.update.Update.{Update as UpdateCall}
use Rattle.xq_ast.specs.GoodNames.{has_good_names}
use Rattle.xml_model.specs.declared.edit.DocEdits.{DocEdits}
use Rattle.xml_model.specs.declared.edit.Edit.{Edit}
use Rattle.xml_model.specs.declared.node.Doc.{Doc}
use Rattle.xml_model.specs.Edits.{Change, DocumentEdits, by_document, changes, rebuilt_there, rebuilt_all, updated, updated_by}
use Rattle.xml_model.specs.Forest.{Forest, IsForest}
use Rattle.xml_model.specs.Items.{Made, ◌>>?◌}
use Rattle.xml_model.specs.Rebuild.{edits_at, rebuild}
use Rattle.xml_model.specs.TreeNodes.{node_of_id}
use Rattle.xml_model.proofs.Alike.{Each}
use Rattle.xml_model.proofs.Framing.{get-beside}
use Rattle.xq_nodes.specs.Joins.{IsBefore, Rises}
use Rattle.xq_edits.specs.Documents.{AreEditsOf, IsEditsOf, asked, edits_by}
use Rattle.xq_edits.specs.Finds.{Found}
use Rattle.xq_edits.specs.Rising.{RiseFrom, entry_cmp}
use Rattle.xq_edits.proofs.InOrder.{names_of, names_rise, each_rises}
use Rattle.xq_edits.proofs.OverTrees.{edits_rise, edits_are}
use Rattle.tree_edit.specs.Numbered.{RisesFrom}
use Rattle.session_run.specs.Updates.{CanBeRemade, put_remade, remade_all}
use Rattle.xq_edits.proofs.ChangesRise.{changes_rise}
use Rattle.xq_edits.proofs.UpdateForests.{KeepsValid, documents_stay_valid}

-- ---- names that differ

-- a name that is before another is not that one
less_apart : (a b : List ℕ) → slice_cmp nat_cmp a b ≡ Less → bytes_eq a b ≡ false
less_apart a b less = go (bytes_eq a b) refl
  where
    go : (t : Bool) → bytes_eq a b ≡ t → t ≡ false
    go true is = absurd (true≢false (sym ((eq_by_cmp_equiv nat_list_cmp_total).refl a)
        ∙ ap is_eq (ap (slice_cmp nat_cmp a) ((bytes_eq-Decides a b).0 is) ∙ less)))
    go false is = refl

-- ---- all documents

-- at the names of these edits the second forest has the documents of the first
abbrev AreSame : Forest → Forest → List DocumentEdits → Type 0
AreSame D F = Each (λ d. map.get D d.name ≡ map.get F d.name)

same_itself : (D : Forest) (ds : List DocumentEdits) → AreSame D D ds
same_itself D [] = tt
same_itself D (d ∷ ds) = (refl, same_itself D ds)

same_beside : (D F : Forest) (name : List ℕ) (new : Doc) (ds : List DocumentEdits) → IsBefore (slice_cmp nat_cmp) name (names_of ds) → AreSame D F ds
    → AreSame D (map.insert F name new) ds
same_beside D F name new [] before same = tt
same_beside D F name new (d ∷ ds) before same = (
  same.0 ∙ sym (get-beside F name d.name new (less_apart name d.name before.0)),
  same_beside D F name new ds before.1 same.1,
)

-- the documents after the edits by their numbers are those after the edits by their places
pub remade_is_rebuilt : (D F : Forest) (edits : List DocEdits) (ds : List DocumentEdits) → AreEditsOf (node_of_id D) edits ds
    → Rises (slice_cmp nat_cmp) (names_of ds) → AreSame D F ds → remade_all D F edits ≡ rebuilt_all F ds
remade_is_rebuilt D F [] [] are rises same = refl
remade_is_rebuilt D F [] (d ∷ ds) are rises same = absurd are
remade_is_rebuilt D F (at ∷ more) [] are rises same = absurd are
remade_is_rebuilt D F (at ∷ more) (d ∷ ds) are rises same =
    ap (λ name. put_remade F at (map.get D name) >>? (λ G. remade_all D G more)) are.0.name
    ∙ go (λ G there. remade_is_rebuilt D G more ds are.1 rises.1 there) (map.get D d.name) refl
    ∙ ap (λ o. rebuilt_there F d o >>? (λ G. rebuilt_all G ds)) same.0
  where
    Rest : Type 0
    Rest = (G : Forest) → AreSame D G ds → remade_all D G more ≡ rebuilt_all G ds

    by_result : Rest → (r : Result Doc Code) → (r >>? (λ new. Ok (map.insert F at.name new))) >>? (λ G. remade_all D G more)
        ≡ (r >>? (λ new. Ok (map.insert F d.name new))) >>? (λ G. rebuilt_all G ds)
    by_result rest (Ok new) = ap (λ name. remade_all D (map.insert F name new) more) are.0.name
        ∙ rest (map.insert F d.name new) (same_beside D F d.name new ds rises.0 same.1)
    by_result rest (Err code) = refl

    go : Rest → (o : Option Doc) → map.get D d.name ≡ o → put_remade F at o >>? (λ G. remade_all D G more) ≡ rebuilt_there F d o >>? (λ G. rebuilt_all G ds)
    go rest None found = rest F same.1
    go rest (Some doc) found =
        ap (λ edits. (rebuild doc edits >>? (λ new. Ok (map.insert F at.name new))) >>? (λ G. remade_all D G more)) (edits_are D at d doc are.0 found)
        ∙ by_result rest (rebuild doc (map.from_entries d.edits))

-- ---- each document

rises_from : (n : ℕ) (edits : List Edit) → RiseFrom n edits → RisesFrom n edits
rises_from n [] rises = tt
rises_from n (e ∷ more) rises = (rises.0, rises_from (e.at + 1) more rises.1)

each_can : (D : Forest) (edits : List DocEdits) (ds : List DocumentEdits) → AreEditsOf (node_of_id D) edits ds
    → Each (λ d. Rises entry_cmp d.edits) ds → Each (KeepsValid D) ds → Each (CanBeRemade D) edits
each_can D [] [] are rise keep = tt
each_can D [] (d ∷ ds) are rise keep = tt
each_can D (at ∷ more) [] are rise keep = absurd are
each_can D (at ∷ more) (d ∷ ds) are rise keep = (
  record {
    rising = rises_from 0 at.edits (edits_rise D at d are.0 rise.0);
    valid = λ doc new found made. let there = ap (map.get D) (sym are.0.name) ∙ found in
        keep.0 doc new there (ap (rebuild doc) (sym (edits_are D at d doc are.0 there)) ∙ made);
  },
  each_can D more ds are.1 rise.1 keep.1,
)

-- what holds of each item holds at each index
each_all : {A : Type 0} (P : A → Type 0) (xs : List A) → Each P xs → All P xs
each_all P [] each = λ k d less. absurd (omega arith)
each_all P (x ∷ xs) each = All-cons P x xs each.0 (each_all P xs each.1)

-- ---- an update

module _ (D : Forest) (what : UpdateCall) (edits : List DocEdits) where
  rebuilt_by : (r : Result (List Change × Made) Code) → changes (map.get D) what [] ≡ r → (ds : List DocumentEdits) → edits_by r ≡ Ok ds
      → AreEditsOf (node_of_id D) edits ds → remade_all D D edits ≡ updated_by D r
  rebuilt_by (Ok both) is ds by are =
      let all : AreEditsOf (node_of_id D) edits (by_document both.0) = subst (AreEditsOf (node_of_id D) edits) (sym (same_ok by)) are in
      remade_is_rebuilt D D edits (by_document both.0) all (names_rise both.0 (changes_rise (map.get D) what (both.0, both.1) is)) (same_itself D (by_document both.0))
    where
      same_ok : {x y : List DocumentEdits} → ◌≡◌ {A = Result (List DocumentEdits) Code} (Ok x) (Ok y) → x ≡ y
      same_ok e = cc
  rebuilt_by (Err code) is ds by are = cc

  -- the documents after the edits that an update asks for are those of its forest
  pub remade_is_updated : Found (AreEditsOf (node_of_id D)) edits (asked D what) → remade_all D D edits ≡ updated D what
  remade_is_updated found = rebuilt_by (changes (map.get D) what []) refl found.value found.is found.stands_for

  can_by : IsForest D → IsTrue (has_good_names (Update what)) → (r : Result (List Change × Made) Code) → changes (map.get D) what [] ≡ r
      → (ds : List DocumentEdits) → edits_by r ≡ Ok ds → AreEditsOf (node_of_id D) edits ds → All (CanBeRemade D) edits
  can_by forest good (Ok both) is ds by are =
      let all : AreEditsOf (node_of_id D) edits (by_document both.0) = subst (AreEditsOf (node_of_id D) edits) (sym (same_ok by)) are in
      each_all (CanBeRemade D) edits (each_can D edits (by_document both.0) all (each_rises both.0 (changes_rise (map.get D) what (both.0, both.1) is))
      (documents_stay_valid D what both.0 both.1 forest good is))
    where
      same_ok : {x y : List DocumentEdits} → ◌≡◌ {A = Result (List DocumentEdits) Code} (Ok x) (Ok y) → x ≡ y
      same_ok e = cc
  can_by forest good (Err code) is ds by are = cc

  -- each of its documents can be remade
  pub can_be_remade : IsForest D → IsTrue (has_good_names (Update what)) → Found (AreEditsOf (node_of_id D)) edits (asked D what)
      → All (CanBeRemade D) edits
  can_be_remade forest good found = can_by forest good (changes (map.get D) what []) refl found.value found.is found.stands_for

refused_by : (D : Forest) (r : Result (List Change × Made) Code) (code : Code) → edits_by r ≡ Err code → updated_by D r ≡ Err code
refused_by D (Ok both) code is = cc
refused_by D (Err other) code is = same other code is
  where
    same : (a b : Code) → ◌≡◌ {A = Result (List DocumentEdits) Code} (Err a) (Err b) → ◌≡◌ {A = Result Forest Code} (Err a) (Err b)
    same a b e = cc

-- a code of what an update asks for is the update's
pub asked_refused : (D : Forest) (what : UpdateCall) (code : Code) → asked D what ≡ Err code → updated D what ≡ Err code
asked_refused D what code is = refused_by D (changes (map.get D) what []) code is
