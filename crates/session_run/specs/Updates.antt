-- What an update makes of the documents that it names.
use Rattle.std.specs.Prelude.{◌≡◌, ℕ, List, [], ◌∷◌, fold, Option, None, Some, is_some, IsTrue, Result, Ok, Err}
use Rattle.std.specs.FinMap as map
use Rattle.xq_ast.specs.declared.code.Code.{Code}
use Rattle.xml_model.specs.declared.edit.DocEdits.{DocEdits}
use Rattle.xml_model.specs.declared.node.Doc.{Doc}
use Rattle.xml_model.specs.Changes.{unshared, with_document}
use Rattle.xml_model.specs.Document.{IsValid}
use Rattle.xml_model.specs.Forest.{Forest}
use Rattle.xml_model.specs.Items.{◌>>?◌}
use Rattle.xml_model.specs.Rebuild.{edits_at, rebuild}
use Rattle.tree_edit.specs.declared.end.EditEnd.{EditEnd}
use Rattle.tree_edit.specs.declared.end.EditEnd.TheVariants as ends
use Rattle.tree_edit.specs.Numbered.{RisesFrom}
use Rattle.session_run.specs.declared.changes.Change.{Change}

-- ---- one document

-- The change gives the edits' name the document that they make of this one.
pub record IsRemade (at : DocEdits) (doc : Doc) (change : Change) : Type 0 where
  pub new : Doc
  pub name : change.name ≡ at.name
  pub after : unshared change.after ≡ Some new
  pub is : rebuild doc (edits_at doc at.edits) ≡ Ok new

-- what the edits make of this document, or the limit that it would be past; memory may be wanting
abbrev pub Remakes : DocEdits → Doc → Result Change EditEnd → Type 0
Remakes at doc (Ok change) = IsRemade at doc change
Remakes at doc (Err (ends.Code code)) = rebuild doc (edits_at doc at.edits) ≡ Err code
Remakes at doc (Err ends.NoMemory) = Unit {0}

-- The edits rise, and make a valid document of the one that the forest has.
pub record CanBeRemade (F : Forest) (at : DocEdits) : Type 0 where
  pub rising : RisesFrom 0 at.edits
  pub valid : (doc new : Doc) → map.get F at.name ≡ Some doc → rebuild doc (edits_at doc at.edits) ≡ Ok new → IsValid new

-- ---- all of them

-- the forest with one change made
abbrev pub changed_one : Forest → Change → Forest
changed_one F change = with_document change.name (unshared change.after) F

-- the forest with each of these changes made, the first of the list first
abbrev pub changed_by : List Change → Forest → Forest
changed_by more F = fold changed_one F more

abbrev pub put_remade : Forest → DocEdits → Option Doc → Result Forest Code
put_remade F at None = Ok F
put_remade F at (Some doc) = rebuild doc (edits_at doc at.edits) >>? (λ new. Ok (map.insert F at.name new))

-- a forest with what these edits make of the documents of another one, or the first limit that one would be past
abbrev pub remade_all : Forest → Forest → List DocEdits → Result Forest Code
remade_all docs F [] = Ok F
remade_all docs F (at ∷ more) = put_remade F at (map.get docs at.name) >>? (λ G. remade_all docs G more)

-- each change is of a document that is there
abbrev pub AreThere : Forest → List Change → Type 0
AreThere F [] = Unit {0}
AreThere F (change ∷ more) = IsTrue (is_some (map.get F change.name)) × AreThere F more

-- the changes make the defined forest of this one, or the code is the defined one; memory may be wanting
abbrev pub RemakesAll : Forest → Result (List Change) EditEnd → Result Forest Code → Type 0
RemakesAll F (Ok more) defined = (defined ≡ Ok (changed_by more F)) × AreThere F more
RemakesAll F (Err (ends.Code code)) defined = defined ≡ Err code
RemakesAll F (Err ends.NoMemory) defined = Unit {0}
