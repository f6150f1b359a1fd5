-- Statements leave forests.
use Rattle.std.proofs.Common.{◌≡◌, ℕ, true, false, IsTrue, List, [], Option, None, Some, Result, Ok, Err, IfSome, refl, sym, subst}
use Rattle.std.specs.FinMap as forests
use Rattle.std.specs.Str.{bytes_eq}
use Rattle.std.proofs.lemmas.Slice.Eq.{bytes_eq-Decides}
use Rattle.xq_ast.specs.Names.{is_document_name}
use Rattle.xq_ast.specs.GoodNames.{has_good_names}
use Rattle.xq_ast.specs.declared.call.Call.{Call}
use Rattle.xq_ast.specs.declared.call.Call.TheVariants.{Begin, BeginRead, Commit, Rollback, Checkpoint, ShowDocuments, Create, Drop, Load, Export, Update, Query}
use Rattle.xq_ast.specs.declared.code.Code.{Code}
use Rattle.xq_ast.specs.declared.update.Update.{Update as UpdateCall}
use Rattle.xml_model.specs.declared.node.Doc.{Doc}
use Rattle.xml_model.specs.declared.node.RefusedLine.{RefusedLine}
use Rattle.xml_model.specs.Document.{IsValid}
use Rattle.xml_model.specs.Edits.{updated}
use Rattle.xml_model.specs.Forest.{Forest, IsForest}
use Rattle.xml_model.specs.Statement.{stmt, added_where_free, changed, dropped}
use Rattle.xml_model.specs.Pyx.{read}
use Rattle.xml_model.proofs.Framing.{get-put, get-beside, get-gone, get-beside-gone}
use Rattle.xml_model.proofs.ReadIsValid.{read_is_valid}

abbrev IsAt : List ℕ → Option Doc → Type 0
IsAt name found = IfSome found (λ doc. IsTrue (is_document_name name) × IsValid doc)

inserted : (F : Forest) (name : List ℕ) (doc : Doc) → IsForest F → IsTrue (is_document_name name) → IsValid doc → IsForest (forests.insert F name doc)
inserted F name doc forest named valid q =
    elim (bytes_eq name q) as (λ b. bytes_eq name q ≡ b → IsAt q (forests.get (forests.insert F name doc) q)) [
      | true ↦ λ same. subst (λ z. IsAt z (forests.get (forests.insert F name doc) z)) ((bytes_eq-Decides name q).0 same)
          (subst (IsAt name) (sym (get-put F name doc)) (named, valid))
      | false ↦ λ other. subst (IsAt q) (sym (get-beside F name q doc other)) (forest q)
    ] refl

removed : (F : Forest) (name : List ℕ) → IsForest F → IsForest (forests.remove F name)
removed F name forest q =
    elim (bytes_eq name q) as (λ b. bytes_eq name q ≡ b → IsAt q (forests.get (forests.remove F name) q)) [
      | true ↦ λ same. subst (λ z. IsAt z (forests.get (forests.remove F name) z)) ((bytes_eq-Decides name q).0 same)
          (subst (IsAt name) (sym (get-gone F name)) tt)
      | false ↦ λ other. subst (IsAt q) (sym (get-beside-gone F name q other)) (forest q)
    ] refl

added_leaves : (name : List ℕ) (o : Option Doc) (made : Result Doc RefusedLine) (F : Forest) → ((doc : Doc) → made ≡ Ok doc → IsValid doc)
    → IsTrue (is_document_name name) → IsForest F → IsForest (added_where_free o name made F).forest
added_leaves name (Some there) made F valid named forest = forest
added_leaves name None (Ok doc) F valid named forest = inserted F name doc forest named (valid doc refl)
added_leaves name None (Err refused) F valid named forest = forest

dropped_leaves : (name : List ℕ) (o : Option Doc) (F : Forest) → IsForest F → IsForest (dropped o name F).forest
dropped_leaves name (Some there) F forest = removed F name forest
dropped_leaves name None F forest = forest

changed_leaves : (F : Forest) (r : Result Forest Code) → IsForest F → ((G : Forest) → r ≡ Ok G → IsForest G) → IsForest (changed r F).forest
changed_leaves F (Ok G) forest after = after G refl
changed_leaves F (Err code) forest after = forest

-- a call leaves a forest where it found one, if the names in the call are names of documents, and an update does
pub leaves : (F : Forest) (call : Call) → IsForest F → IsTrue (has_good_names call)
    → ((what : UpdateCall) (G : Forest) → call ≡ Update what → updated F what ≡ Ok G → IsForest G) → IsForest (stmt F call).forest
leaves F Begin forest named updates = forest
leaves F BeginRead forest named updates = forest
leaves F Commit forest named updates = forest
leaves F Rollback forest named updates = forest
leaves F Checkpoint forest named updates = forest
leaves F ShowDocuments forest named updates = forest
leaves F (Create name) forest named updates = added_leaves name (forests.get F name) (Ok (record { kids = [] })) F (read_is_valid []) named forest
leaves F (Drop name) forest named updates = dropped_leaves name (forests.get F name) F forest
leaves F (Load name lines) forest named updates = added_leaves name (forests.get F name) (read lines) F (read_is_valid lines) named forest
leaves F (Export name) forest named updates = forest
leaves F (Update what) forest named updates = changed_leaves F (updated F what) forest (λ G. updates what G refl)
leaves F (Query expr) forest named updates = forest
