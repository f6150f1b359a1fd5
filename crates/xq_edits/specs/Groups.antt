-- Changes that stand side by side, in groups: a group ends where the number of the document changes.
use Rattle.std.specs.Prelude.{◌≡◌, ℕ, Bool, false, ◌==◌, if◌then◌else◌, List, [], ◌∷◌, map, Option, None, Some, is_some, bytes_eq}
use Rattle.std.specs.FinMap as forests
use Rattle.xml_model.specs.declared.edit.DocEdits.{DocEdits}
use Rattle.xml_model.specs.declared.edit.Edit.{Edit}
use Rattle.xml_model.specs.declared.nav.Id.{Id}
use Rattle.xml_model.specs.Forest.{Forest}
use Rattle.xml_model.specs.Nav.{Stored}
use Rattle.xq_edits.specs.declared.change.Change.{Change}
use Rattle.xq_edits.specs.declared.documents.NamedRoot.{NamedRoot}

-- ---- documents that are there

abbrev pub is_there : Forest → List ℕ → Bool
is_there F name = is_some (forests.get F name)

abbrev pub names_of : List NamedRoot → List (List ℕ)
names_of roots = map (λ root. root.name) roots

-- each node is one of the document of its name
abbrev pub AreRoots : (Id → Stored) → List NamedRoot → Type 0
AreRoots place [] = Unit {0}
AreRoots place (root ∷ roots) = ((place root.node).name ≡ root.name) × AreRoots place roots

-- the name of the document with this number
abbrev pub named_by : List NamedRoot → ℕ → Option (List ℕ)
named_by [] doc = None
named_by (root ∷ roots) doc = if root.node.doc == doc then Some root.name else named_by roots doc

-- the number of the document with this name
abbrev pub numbered_by : List NamedRoot → List ℕ → Option ℕ
numbered_by [] name = None
numbered_by (root ∷ roots) name = if bytes_eq name root.name then Some root.node.doc else numbered_by roots name

-- the name and the number of the document of each change's node are those that the roots have
abbrev pub AreTold : (Id → Stored) → List NamedRoot → List Change → Type 0
AreTold place roots [] = Unit {0}
AreTold place roots (c ∷ more) =
    ((named_by roots c.node.doc ≡ Some (place c.node).name) × (numbered_by roots (place c.node).name ≡ Some c.node.doc)) × AreTold place roots more

-- ---- groups

abbrev pub edit_of : Change → Edit
edit_of c = record { at = c.node.node; what = c.what }

-- the first change is one of the document with this number
abbrev pub begins_in : ℕ → List Change → Bool
begins_in doc [] = false
begins_in doc (c ∷ more) = c.node.doc == doc

-- the edits of the first changes, up to one of another document
abbrev pub same_document : ℕ → List Change → List Edit
same_document doc [] = []
same_document doc (c ∷ more) = if c.node.doc == doc then edit_of c ∷ same_document doc more else []

-- the changes from the first one of another document on
abbrev pub from_other : ℕ → List Change → List Change
from_other doc [] = []
from_other doc (c ∷ more) = if c.node.doc == doc then from_other doc more else c ∷ more

-- the edits of the document with this name, if it is known
abbrev pub edits_named : Option (List ℕ) → List Edit → List DocEdits
edits_named None edits = []
edits_named (Some name) edits = record { name = name; edits = edits } ∷ []
