-- What is changed in a forest: names with the document that each has now, or none where it is dropped.
use Rattle.std.specs.Prelude.{ℕ, List, [], ◌∷◌, map as list_map, fold, string_bytes, Option, None, Some, IsTrue, IfSome, refl}
use Rattle.std.specs.Coded.{Coded, code_by, coded×, coded_ℕ, coded_list, coded_option}
use Rattle.std.specs.Arc.{arc_value}
use Rattle.std.specs.declared.string.String.{String}
use Rattle.std.specs.declared.sync.Arc.{Arc}
use Rattle.std.specs.FinMap as map
use Rattle.std.specs.Ordering.{nat_cmp}
use Rattle.std.specs.Cmp.Lexicographic.{slice_cmp}
use Rattle.indexmap.specs.IndexMap.{IndexMap}
use Rattle.xq_ast.specs.Names.{is_document_name}
use Rattle.xml_model.specs.declared.node.Doc.{Doc}
use Rattle.xml_model.specs.contracts.node.Doc as the_doc
use Rattle.xml_model.specs.Document.{IsValid}
use Rattle.xml_model.specs.Forest.{Forest, no_documents}

-- names in the order of their bytes, each with the document that it has now, or with none where it is dropped
abbrev pub ChangeMap : Type 0
ChangeMap = map.FinMap (slice_cmp nat_cmp) (Option Doc)

-- changes of no name
abbrev pub no_changes : ChangeMap
no_changes = map.empty

-- each name is a name of a document, and each document is valid: so a forest stays one under the changes
abbrev pub AreValidChanges : ChangeMap → Type 0
AreValidChanges changes = (name : List ℕ) → IfSome (map.get changes name) (λ after. IsTrue (is_document_name name) × IfSome after IsValid)

-- changes, and for how many names more there is room
pub record Changing : Type 0 where
  pub changes : ChangeMap
  pub room : ℕ

-- the forest in which a name has this document, or none
abbrev pub with_document : List ℕ → Option Doc → Forest → Forest
with_document name (Some doc) F = map.insert F name doc
with_document name None F = map.remove F name

-- the forest with each of these documents put in or taken out, the last of the list first: so the first counts
abbrev pub with_documents : List (List ℕ × Option Doc) → Forest → Forest
with_documents [] F = F
with_documents (e ∷ es) F = with_document e.0 e.1 (with_documents es F)

-- the forest with the changes laid over it
abbrev pub laid_over : ChangeMap → Forest → Forest
laid_over changes F = with_documents (map.entries changes) F

-- ---- how changes are kept: entries of texts and shared documents

-- how changes are written as one value: by their entries, each a list of bytes and a document or none
abbrev pub changes_code : Coded ChangeMap
changes_code = map.code (coded_list coded_ℕ) (coded_option the_doc.the_row.coded)

-- how changes and their room are written as one value
abbrev pub changing_code : Coded Changing
changing_code = code_by (ChangeMap × ℕ) (coded× changes_code coded_ℕ) (λ c. (c.changes, c.room)) (λ p. record { changes = p.0; room = p.1 }) (λ _. refl)

-- the document behind a shared pointer, or none where there is none
abbrev pub unshared : {Z : Type 0} → Option (Arc Doc Z) → Option Doc
unshared None = None
unshared (Some shared) = Some (arc_value shared)

-- the changes that the entries of a table say; where a name stands twice its first entry counts
abbrev pub changes_of_entries : {A Z : Type 0} → List (String A × Option (Arc Doc Z)) → ChangeMap
changes_of_entries es = map.from_entries (list_map (λ e. (string_bytes e.0, unshared e.1)) es)

-- ---- how a forest is kept: layers of changes, the oldest first, each laid over those before it

-- the forest with the changes of one layer laid over it
abbrev pub with_layer : {A S Y Z : Type 0} → Forest → Arc (IndexMap (String A) (Option (Arc Doc Z)) S) Y → Forest
with_layer F layer = laid_over (changes_of_entries (arc_value layer).entries) F

-- the forest of the layers: each laid over those before it, the first over no documents
abbrev pub forest_of_layers : {A S Y Z : Type 0} → List (Arc (IndexMap (String A) (Option (Arc Doc Z)) S) Y) → Forest
forest_of_layers layers = fold with_layer no_documents layers
