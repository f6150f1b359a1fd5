-- Updates leave forests.
use Rattle.std.proofs.Common.{◌≡◌, ℕ, true, false, IsTrue, sym, subst, List, [], ◌∷◌, Option, None, Some, Result, Ok, Err, IfSome, refl}
use Rattle.std.specs.FinMap as forests
use Rattle.std.specs.Str.{bytes_eq}
use Rattle.std.proofs.lemmas.Slice.Eq.{bytes_eq-Decides}
use Rattle.xq_ast.specs.Names.{is_document_name}
use Rattle.xq_ast.specs.declared.code.Code.{Code}
use Rattle.xq_ast.specs.declared.update.Update.{Update as UpdateCall}
use Rattle.xml_model.specs.declared.node.Doc.{Doc}
use Rattle.xml_model.specs.Document.{IsValid}
use Rattle.xml_model.specs.Edits.{Change, DocumentEdits, changes, by_document, rebuilt_there, rebuilt_all, updated_by, updated}
use Rattle.xml_model.specs.Forest.{Forest, IsForest}
use Rattle.xml_model.specs.GoodEdits.{KeepForm}
use Rattle.xml_model.specs.Items.{Made, ◌>>?◌}
use Rattle.xml_model.specs.Rebuild.{Edits, rebuild}
use Rattle.xml_model.proofs.Framing.{get-put, get-beside}
use Rattle.xml_model.proofs.RebuildValid.{stays_valid}

-- the edits of one document by their places
abbrev pub edits_of : DocumentEdits → Edits
edits_of d = forests.from_entries d.edits

abbrev IsAt : List ℕ → Option Doc → Type 0
IsAt name found = IfSome found (λ doc. IsTrue (is_document_name name) × IsValid doc)

-- a valid document of a good name comes into a forest
inserted : (F : Forest) (name : List ℕ) (doc : Doc) → IsForest F → IsTrue (is_document_name name) → IsValid doc → IsForest (forests.insert F name doc)
inserted F name doc forest named valid q =
    elim (bytes_eq name q) as (λ b. bytes_eq name q ≡ b → IsAt q (forests.get (forests.insert F name doc) q)) [
      | true ↦ λ same. subst (λ z. IsAt z (forests.get (forests.insert F name doc) z)) ((bytes_eq-Decides name q).0 same)
          (subst (IsAt name) (sym (get-put F name doc)) (named, valid))
      | false ↦ λ other. subst (IsAt q) (sym (get-beside F name q doc other)) (forest q)
    ] refl

-- the edits of one document keep the document that is there well-formed
abbrev pub KeepsThere : DocumentEdits → Option Doc → Type 0
KeepsThere d found = IfSome found (λ doc. KeepForm doc (forests.get (edits_of d)))

-- a forest, unless there is a code instead
abbrev pub LeavesForest : Result Forest Code → Type 0
LeavesForest (Ok G) = IsForest G
LeavesForest (Err code) = Unit {0}

with_rebuilt : (F : Forest) (d : DocumentEdits) (made : Result Doc Code) → IsForest F → IsTrue (is_document_name d.name)
    → ((new : Doc) → made ≡ Ok new → IsValid new) → LeavesForest (made >>? (λ new. Ok (forests.insert F d.name new)))
with_rebuilt F d (Ok new) forest named valid = inserted F d.name new forest named (valid new refl)
with_rebuilt F d (Err code) forest named valid = tt

there : (F : Forest) (d : DocumentEdits) (found : Option Doc) → IsForest F
    → IfSome found (λ doc. IsTrue (is_document_name d.name) × IsValid doc) → KeepsThere d found → LeavesForest (rebuilt_there F d found)
there F d None forest was keeps = forest
there F d (Some doc) forest was keeps =
    with_rebuilt F d (rebuild doc (edits_of d)) forest was.0
    (λ new is. stays_valid doc new (edits_of d) was.1 keeps is)

-- a forest is one after the edits of one document that keep that document well-formed
pub one_leaves : (F : Forest) (d : DocumentEdits) → IsForest F → KeepsThere d (forests.get F d.name)
    → LeavesForest (rebuilt_there F d (forests.get F d.name))
one_leaves F d forest keeps = there F d (forests.get F d.name) forest (forest d.name) keeps

-- the edits of each document keep well-formed what is there in its turn
abbrev pub KeepEach : Forest → List DocumentEdits → Type 0
KeepEach F [] = Unit {0}
KeepEach F (d ∷ ds) = KeepsThere d (forests.get F d.name) × ((G : Forest) → rebuilt_there F d (forests.get F d.name) ≡ Ok G → KeepEach G ds)

all_after : (ds : List DocumentEdits) → ((F : Forest) → IsForest F → KeepEach F ds → LeavesForest (rebuilt_all F ds)) → (made : Result Forest Code)
    → LeavesForest made → ((G : Forest) → made ≡ Ok G → KeepEach G ds) → LeavesForest (made >>? (λ G. rebuilt_all G ds))
all_after ds rest (Ok G) forest keep = rest G forest (keep G refl)
all_after ds rest (Err code) forest keep = tt

-- a forest is one after the edits of all documents that keep them well-formed, each in its turn
pub all_leave : (F : Forest) (ds : List DocumentEdits) → IsForest F → KeepEach F ds → LeavesForest (rebuilt_all F ds)
all_leave F [] forest keep = forest
all_leave F (d ∷ ds) forest keep =
    all_after ds (λ G. all_leave G ds) (rebuilt_there F d (forests.get F d.name)) (one_leaves F d forest keep.0) keep.1

by_changes : (F : Forest) (asked : Result (List Change × Made) Code) → IsForest F
    → ((cs : List Change) (after : Made) → asked ≡ Ok (cs, after) → KeepEach F (by_document cs)) → LeavesForest (updated_by F asked)
by_changes F (Ok both) forest keep = all_leave F (by_document both.0) forest (keep both.0 both.1 refl)
by_changes F (Err code) forest keep = tt

-- a forest is one after an update whose edits of each document keep well-formed what is there in its turn
pub update_leaves : (F : Forest) (what : UpdateCall) → IsForest F
    → ((cs : List Change) (after : Made) → changes (forests.get F) what [] ≡ Ok (cs, after) → KeepEach F (by_document cs)) → LeavesForest (updated F what)
update_leaves F what forest keep = by_changes F (changes (forests.get F) what []) forest keep
