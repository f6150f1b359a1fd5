-- The edits of each document, by the numbers of its nodes.
use Rattle.std.specs.Prelude.{◌≡◌, ℕ, List, [], ◌∷◌, map, is_some, bytes_eq, IsTrue, Result, Ok, Err}
use Rattle.std.specs.FinMap as forests
use Rattle.std.specs.List.{list_any}
use Rattle.xq_ast.specs.declared.code.Code.{Code}
use Rattle.xq_ast.specs.declared.update.Update.{Update}
use Rattle.xml_model.specs.declared.edit.DocEdits.{DocEdits}
use Rattle.xml_model.specs.declared.edit.Edit.{Edit}
use Rattle.xml_model.specs.declared.edit.EditKind.{EditKind}
use Rattle.xml_model.specs.declared.nav.Id.{Id}
use Rattle.xml_model.specs.declared.place.PlaceStep.{PlaceStep}
use Rattle.xml_model.specs.Edits.{Change, DocumentEdits, by_document, changes}
use Rattle.xml_model.specs.Forest.{Forest}
use Rattle.xml_model.specs.Items.{Made}
use Rattle.xml_model.specs.Nav.{Stored}

-- each node is of a document that is there and has one of these names
abbrev pub AreNamed : Forest → List (List ℕ) → List Stored → Type 0
AreNamed F names [] = Unit {0}
AreNamed F names (n ∷ nodes) = (IsTrue (list_any (bytes_eq n.name) names) × IsTrue (is_some (forests.get F n.name))) × AreNamed F names nodes

-- the node with this number of a document and this number in it
abbrev pub id_of : ℕ → Edit → Id
id_of doc e = record { doc = doc; node = e.at }

-- each edit is of a node of the document with this name
abbrev pub AreIn : (Id → Stored) → ℕ → List ℕ → List Edit → Type 0
AreIn place doc name [] = Unit {0}
AreIn place doc name (e ∷ edits) = ((place (id_of doc e)).name ≡ name) × AreIn place doc name edits

-- the places of the edits, and what is done there
abbrev pub edits_seen : (Id → Stored) → ℕ → List Edit → List (List PlaceStep × EditKind)
edits_seen place doc edits = map (λ e. ((place (id_of doc e)).place, e.what)) edits

-- edits at numbers of nodes are those at places of a document
pub record IsEditsOf (place : Id → Stored) (at : DocEdits) (d : DocumentEdits) : Type 0 where
  pub doc : ℕ
  pub name : at.name ≡ d.name
  pub all : AreIn place doc d.name at.edits
  pub edits : edits_seen place doc at.edits ≡ d.edits

abbrev pub AreEditsOf : (Id → Stored) → List DocEdits → List DocumentEdits → Type 0
AreEditsOf place [] [] = Unit {0}
AreEditsOf place [] (d ∷ ds) = ⊥
AreEditsOf place (at ∷ more) [] = ⊥
AreEditsOf place (at ∷ more) (d ∷ ds) = IsEditsOf place at d × AreEditsOf place more ds

-- the edits of an update, document by document, or its code
abbrev pub edits_by : Result (List Change × Made) Code → Result (List DocumentEdits) Code
edits_by (Ok both) = Ok (by_document both.0)
edits_by (Err code) = Err code

abbrev pub asked : Forest → Update → Result (List DocumentEdits) Code
asked F what = edits_by (changes (forests.get F) what [])
