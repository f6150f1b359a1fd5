-- What is laid over forests leaves forests.
use Rattle.std.proofs.Common.{◌≡◌, ℕ, Bool, true, false, cond, IsTrue, IfSome, List, [], ◌∷◌, length, Option, None, Some, refl, sym, subst, ◌∙◌, arith}
use Rattle.std.specs.FinMap as map
use Rattle.std.specs.Ordering.{nat_cmp}
use Rattle.std.specs.Cmp.Lexicographic.{slice_cmp, nat_list_cmp_total}
use Rattle.std.specs.Str.{bytes_eq}
use Rattle.std.proofs.lemmas.Slice.Eq.{bytes_eq-Decides}
use Rattle.std.proofs.lemmas.Map.Text.{is_eq-slice_cmp}
use Rattle.xq_ast.specs.Names.{is_document_name}
use Rattle.xml_model.specs.declared.node.Doc.{Doc}
use Rattle.xml_model.specs.Document.{IsValid}
use Rattle.xml_model.specs.Forest.{Forest, no_documents, IsForest}
use Rattle.std.specs.declared.string.String.{String}
use Rattle.std.specs.declared.sync.Arc.{Arc}
use Rattle.xml_model.specs.Changes.{ChangeMap, no_changes, laid_over, AreValidChanges, changes_of_entries}
use Rattle.xml_model.proofs.Laying.{seen_as, get-laid}

-- what is found at the name, if anything, is valid, and the name is a document's name
abbrev pub IsAt : List ℕ → Option Doc → Type 0
IsAt name found = IfSome found (λ doc. IsTrue (is_document_name name) × IsValid doc)

abbrev IsChangedAt : List ℕ → Option (Option Doc) → Type 0
IsChangedAt name found = IfSome found (λ after. IsTrue (is_document_name name) × IfSome after IsValid)

-- no documents are a forest
pub none_is_forest : (F : Forest) → F ≡ no_documents → IsForest F
none_is_forest F none q = subst (IsAt q) (sym ((λ i. map.get (none i) q) ∙ map.get-empty (slice_cmp nat_cmp) q)) tt

-- no changes are valid ones
pub none_are_valid : (changes : ChangeMap) → changes ≡ no_changes → AreValidChanges changes
none_are_valid changes none q = subst (IsChangedAt q) (sym ((λ i. map.get (none i) q) ∙ map.get-empty (slice_cmp nat_cmp) q)) tt

-- one valid change more
put_by : (changes : ChangeMap) (name : List ℕ) (after : Option Doc) (q : List ℕ) (b : Bool) → bytes_eq q name ≡ b
    → IsChangedAt q (map.get changes q) → IsTrue (is_document_name name) → IfSome after IsValid → IsChangedAt q (cond b (Some after) (map.get changes q))
put_by changes name after q true same before named valid = (subst (λ z. IsTrue (is_document_name z)) (sym ((bytes_eq-Decides q name).0 same)) named, valid)
put_by changes name after q false other before named valid = before

-- valid changes stay valid with one change more, if its name is a document's name and its document is valid
pub put_is_valid : (changes : ChangeMap) (name : List ℕ) (after : Option Doc) → AreValidChanges changes → IsTrue (is_document_name name) → IfSome after IsValid
    → AreValidChanges (map.insert changes name after)
put_is_valid changes name after before named valid q =
    subst (IsChangedAt q) (sym (map.get-insert nat_list_cmp_total changes name after q
    ∙ (λ i. cond (is_eq-slice_cmp q name i) (Some after) (map.get changes q))))
    (put_by changes name after q (bytes_eq q name) refl (before q) named valid)

at_seen : (q : List ℕ) (o : Option (Option Doc)) (there : Option Doc) → IsChangedAt q o → IsAt q there → IsAt q (seen_as o there)
at_seen q None there changed below = below
at_seen q (Some None) there changed below = tt
at_seen q (Some (Some doc)) there changed below = changed

-- valid changes leave a forest
pub laid_is_forest : (changes : ChangeMap) (F : Forest) → AreValidChanges changes → IsForest F → IsForest (laid_over changes F)
laid_is_forest changes F valid forest q = subst (IsAt q) (sym (get-laid changes F q)) (at_seen q (map.get changes q) (map.get F q) (valid q) (forest q))

valid_at : (q : List ℕ) (o : Option Doc) → IsAt q o → IfSome o IsValid
valid_at q None at = tt
valid_at q (Some doc) at = at.1

-- what a forest has at a name is valid
pub found_is_valid : (F : Forest) (q : List ℕ) (o : Option Doc) → IsForest F → o ≡ map.get F q → IfSome o IsValid
found_is_valid F q o forest is = valid_at q o (subst (IsAt q) (sym is) (forest q))

-- so is what stands at a name of a forest
pub at_is_valid : (q : List ℕ) (found o : Option Doc) → o ≡ found → IsAt q found → IfSome o IsValid
at_is_valid q found o is at = subst (λ o. IfSome o IsValid) (sym is) (valid_at q found at)

-- what valid changes give a name is valid, and the name is a document's name
pub changed_is_at : (changes : ChangeMap) (q : List ℕ) (after : Option Doc) → AreValidChanges changes → map.get changes q ≡ Some after → IsAt q after
changed_is_at changes q after valid is = at_seen q (Some after) None (subst (IsChangedAt q) is (valid q)) tt

-- a table without entries has no changes
pub empty_is_valid : {A Z : Type 0} (es : List (String A × Option (Arc Doc Z))) → length es ≡ 0 → AreValidChanges (changes_of_entries es)
empty_is_valid [] none = none_are_valid _ refl
empty_is_valid (e ∷ es) none = absurd (omega arith)
