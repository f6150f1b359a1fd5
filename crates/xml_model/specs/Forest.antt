-- Forests: finite maps from document names to documents. Those that a store has are valid (`IsForest`).
use Rattle.std.specs.Prelude.{ℕ, List, IsTrue, IfSome}
use Rattle.std.specs.Coded.{Coded, coded_ℕ, coded_list}
use Rattle.std.specs.FinMap as map
use Rattle.std.specs.Ordering.{nat_cmp}
use Rattle.std.specs.Cmp.Lexicographic.{slice_cmp}
use Rattle.xq_ast.specs.Names.{is_document_name}
use Rattle.xml_model.specs.declared.node.Doc.{Doc}
use Rattle.xml_model.specs.contracts.node.Doc as the_doc
use Rattle.xml_model.specs.Document.{IsValid}

-- names are ordered by their bytes
abbrev pub Forest : Type 0
Forest = map.FinMap (slice_cmp nat_cmp) Doc

-- the forest without documents
abbrev pub no_documents : Forest
no_documents = map.empty

-- each document is valid, and its name is a name of a document
abbrev pub IsForest : Forest → Type 0
IsForest F = (name : List ℕ) → IfSome (map.get F name) (λ doc. IsTrue (is_document_name name) × IsValid doc)

-- how a forest is written as one value: by its entries, each a list of bytes and a document
abbrev pub forest_code : Coded Forest
forest_code = map.code (coded_list coded_ℕ) the_doc.the_row.coded
