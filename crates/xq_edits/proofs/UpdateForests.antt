-- An update leaves a forest.
use Rattle.std.proofs.Common.{◌≡◌, ℕ, true, false, true≢false, IsTrue, IfSome, List, [], ◌∷◌, Some, Ok, refl, sym, ap, subst, ◌∙◌}
use Rattle.std.specs.FinMap as forests
use Rattle.std.specs.Cmp.{tied_itself}
use Rattle.std.specs.Cmp.Lexicographic.{slice_cmp, nat_list_cmp_total}
use Rattle.std.specs.Ordering.{nat_cmp, is_eq}
use Rattle.std.specs.Str.{bytes_eq}
use Rattle.std.specs.declared.cmp.Ordering.TheVariants.{Less}
use Rattle.std.proofs.lemmas.Slice.Eq.{bytes_eq-Decides}
use Rattle.xq_ast.specs.GoodNames.{are_good_in_update}
use Rattle.xq_ast.specs.declared.update.Update.{Update}
use Rattle.xq_ast.specs.Names.{is_document_name}
use Rattle.xml_model.specs.declared.node.Doc.{Doc}
use Rattle.xml_model.specs.Document.{IsValid}
use Rattle.xml_model.specs.Edits.{Change, DocumentEdits, by_document, changes, updated}
use Rattle.xml_model.specs.Forest.{Forest, IsForest}
use Rattle.xml_model.specs.Items.{Made}
use Rattle.xml_model.specs.Rebuild.{rebuild}
use Rattle.xml_model.proofs.Alike.{Each, each_gives}
use Rattle.xml_model.proofs.RebuildValid.{stays_valid}
use Rattle.xq_nodes.specs.Joins.{IsBefore, Rises}
use Rattle.xq_edits.proofs.Brings.{brought}
use Rattle.xq_edits.proofs.ChangesRise.{changes_rise}
use Rattle.xq_edits.proofs.EachDocument.{IsOther, AreApart, documents_keep, edits_keep}
use Rattle.xq_edits.proofs.InOrder.{names_of, names_rise}
use Rattle.xq_edits.proofs.UpdateForm.{KeepsThere, LeavesForest, update_leaves}

-- a name that is before another is not that one
less_differs : (a b : List ℕ) → slice_cmp nat_cmp a b ≡ Less → bytes_eq a b ≡ false
less_differs a b less =
    elim (bytes_eq a b) as (λ t. bytes_eq a b ≡ t → t ≡ false) [
      | true ↦ λ same. absurd (true≢false (ap is_eq (sym (ap (slice_cmp nat_cmp a) (sym ((bytes_eq-Decides a b).0 same)) ∙ tied_itself nat_list_cmp_total a) ∙ less)))
      | false ↦ λ other. refl
    ] refl

others : (name : List ℕ) (ds : List DocumentEdits) → IsBefore (slice_cmp nat_cmp) name (names_of ds) → IsOther name ds
others name [] h = tt
others name (d ∷ ds) h = (less_differs name d.name h.0, others name ds h.1)

-- names that rise differ
rising_apart : (ds : List DocumentEdits) → Rises (slice_cmp nat_cmp) (names_of ds) → AreApart ds
rising_apart [] h = tt
rising_apart (d ∷ ds) h = (others d.name ds h.0, rising_apart ds h.1)

-- the document of this name is valid after the edits
abbrev pub KeepsValid : Forest → DocumentEdits → Type 0
KeepsValid F d = (doc new : Doc) → forests.get F d.name ≡ Some doc → rebuild doc (forests.from_entries d.edits) ≡ Ok new → IsValid new

valid_there : (F : Forest) → IsForest F → (d : DocumentEdits) → KeepsThere d (forests.get F d.name) → KeepsValid F d
valid_there F valid d keeps doc new found is =
    stays_valid doc new (forests.from_entries d.edits) (subst (λ o. IfSome o (λ doc. IsTrue (is_document_name d.name) × IsValid doc)) found (valid d.name)).1
    (subst (KeepsThere d) found keeps) is

module _ (F : Forest) (what : Update) (cs : List Change) (after : Made) (valid : IsForest F) (good : IsTrue (are_good_in_update what))
    (asked : changes (forests.get F) what [] ≡ Ok (cs, after)) where
  apart : AreApart (by_document cs)
  apart = rising_apart (by_document cs) (names_rise cs (changes_rise (forests.get F) what (cs, after) asked))

  -- each document of a forest is valid after the edits that an update with good names asks of it
  pub documents_stay_valid : Each (KeepsValid F) (by_document cs)
  documents_stay_valid =
      each_gives (λ (d : DocumentEdits). KeepsThere d (forests.get F d.name)) (KeepsValid F) (valid_there F valid) (by_document cs)
      (documents_keep F valid what cs after asked (brought F what cs after valid good asked) apart)

-- an update whose names are good leaves a forest
pub leaves_forest : (F G : Forest) (what : Update) → IsForest F → IsTrue (are_good_in_update what) → updated F what ≡ Ok G → IsForest G
leaves_forest F G what valid good is =
    subst LeavesForest is (update_leaves F what valid (λ cs after asked.
    edits_keep F valid what cs after asked (brought F what cs after valid good asked)
    (rising_apart (by_document cs) (names_rise cs (changes_rise (forests.get F) what (cs, after) asked)))))
