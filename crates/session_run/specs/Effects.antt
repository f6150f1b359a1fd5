-- What a statement says, and what it changes.
use Rattle.std.specs.Prelude.{◌≡◌, ℕ, List, [], ◌∷◌, fold, Option, Some, IsTrue, IfSome, Result, Ok, Err}
use Rattle.std.specs.FinMap as map
use Rattle.xq_ast.specs.declared.call.Call.{Call}
use Rattle.xml_model.specs.declared.node.Doc.{Doc}
use Rattle.xml_model.specs.declared.node.RefusedLine.{RefusedLine}
use Rattle.xq_ast.specs.Names.{is_document_name}
use Rattle.xml_model.specs.Document.{IsValid}
use Rattle.xml_model.specs.Forest.{Forest}
use Rattle.xml_model.specs.Needs.{needs, AgreeAt}
use Rattle.xml_model.specs.Statement.{stmt}
use Rattle.pyx_text.specs.declared.fault.PyxFault.{PyxFault}
use Rattle.pyx_text.specs.declared.fault.PyxFault.TheVariants.{Refused, NoMemory}
use Rattle.session_core.specs.declared.history.event.Says.TheVariants as says
use Rattle.session_core.specs.History.Transactions.{says_of}
use Rattle.session_run.specs.declared.changes.Change.{Change}
use Rattle.session_run.specs.declared.statement.Effect.{Effect}
use Rattle.xml_model.specs.Changes.{ChangeMap, laid_over, unshared}

-- the changes with one more
abbrev pub with_change : ChangeMap → Change → ChangeMap
with_change changes change = map.insert changes change.name (unshared change.after)

-- the changes with each of these, the first of the list first
abbrev pub with_changes : List Change → ChangeMap → ChangeMap
with_changes more changes = fold with_change changes more

-- each change gives a document's name a valid document, or none
abbrev pub AreValidChanges : List Change → Type 0
AreValidChanges [] = Unit {0}
AreValidChanges (change ∷ more) = (IsTrue (is_document_name change.name) × IfSome (unshared change.after) IsValid) × AreValidChanges more

-- Over this forest with the changes laid over it the call says what the effect says; and on every forest that has the
-- same documents under the call's needs it leaves what the changes with the effect's make.
pub record IsEffect (call : Call) (changes : ChangeMap) (F : Forest) (effect : Effect) : Type 0 where
  pub says : effect.says ≡ says_of (stmt (laid_over changes F) call).says
  pub leaves : (G : Forest) → AgreeAt (needs call) F G → laid_over (with_changes effect.changes changes) G ≡ (stmt (laid_over changes G) call).forest

-- the document that lines spell, or their first refusal; memory may be wanting
abbrev pub Spells : Result Doc PyxFault → Result Doc RefusedLine → Type 0
Spells (Ok doc) read = read ≡ Ok doc
Spells (Err (Refused e)) read = read ≡ Err e
Spells (Err NoMemory) read = Unit {0}

-- the effect of a name that gets this document, or none
pub record IsChanged (name : List ℕ) (after : Option Doc) (effect : Effect) : Type 0 where
  pub says : effect.says ≡ says.Done
  pub leaves : (changes : ChangeMap) → with_changes effect.changes changes ≡ map.insert changes name after

-- the effect of a document that is put
abbrev pub IsPut : List ℕ → Doc → Effect → Type 0
IsPut name doc = IsChanged name (Some doc)
