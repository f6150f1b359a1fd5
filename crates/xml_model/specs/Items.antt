-- Items: what the values of expressions are lists of (XQuery 1.0 and XPath 2.0 Data Model, section 2.5), and what makes
-- them. Evaluation also makes trees, so each of its parts takes the trees constructed so far and answers those after it.
use Rattle.std.specs.Prelude.{ℕ, ℤ, Bool, List, [], ◌∷◌, ◌++◌, length, Option, Result, Ok, Err, slice_get, option_map}
use Rattle.xq_ast.specs.declared.code.Code.{Code}
use Rattle.xml_model.specs.declared.place.PlaceStep.{PlaceStep}
use Rattle.xml_model.specs.declared.node.Doc.{Doc}
use Rattle.xml_model.specs.Place.{Placed, the_document, placed_from}

-- the tree that a node stands in: a document of the forest, by its name, or a constructed tree, by its number in the
-- order of construction, from 0
pub data Tree : Type 0 where
  stored : List ℕ → Tree
  constructed : ℕ → Tree

-- a node: its tree, and its place from the tree's root
pub record NodeAt : Type 0 where
  pub tree : Tree
  pub place : List PlaceStep

-- an item: a node or an atomic value
pub data Item : Type 0 where
  node : NodeAt → Item
  string : List ℕ → Item
  integer : ℤ → Item
  boolean : Bool → Item

abbrev pub Items : Type 0
Items = List Item

-- the documents that a query may name
abbrev pub Documents : Type 0
Documents = List ℕ → Option Doc

-- the roots of the constructed trees, in the order of their construction
abbrev pub Made : Type 0
Made = List Placed

-- what takes the trees constructed so far, and answers a value with the trees after it, or the first code
abbrev pub Making : Type 0 → Type 0
Making A = Made → Result (A × Made) Code

abbrev pub give : {A : Type 0} → A → Making A
give x made = Ok (x, made)

abbrev pub fail : {A : Type 0} → Code → Making A
fail code made = Err code

-- what makes no tree
abbrev pub plain : {A : Type 0} → Result A Code → Making A
plain (Ok x) made = Ok (x, made)
plain (Err code) made = Err code

-- what only looks at the trees
abbrev pub look : {A : Type 0} → (Made → Result A Code) → Making A
look f made = plain (f made) made

abbrev pub then_with : {A B : Type 0} → Result (A × Made) Code → (A → Making B) → Result (B × Made) Code
then_with (Ok both) f = f both.0 both.1
then_with (Err code) f = Err code

-- one after the other; the first code ends both
infixl 10 ◌>>=◌
abbrev pub ◌>>=◌ : {A B : Type 0} → Making A → (A → Making B) → Making B
(m >>= f) made = then_with (m made) f

-- the same where no tree is made
infixl 10 ◌>>?◌
abbrev pub ◌>>?◌ : {A B : Type 0} → Result A Code → (A → Result B Code) → Result B Code
(Ok x) >>? f = f x
(Err code) >>? f = Err code

-- one more tree, and its root
abbrev pub construct : Placed → Making Items
construct root made = Ok (node (record { tree = constructed (length made); place = [] }) ∷ [], made ++ root ∷ [])

-- ---- what stands behind a node

-- the root of a tree that is there
abbrev pub tree_root : Documents → Made → Tree → Option Placed
tree_root docs made (stored name) = option_map the_document (docs name)
tree_root docs made (constructed number) = slice_get made number

-- what stands at the node, where its tree and its place are there
abbrev pub node_at : Documents → Made → NodeAt → Option Placed
node_at docs made n = placed_from n.place (tree_root docs made n.tree)
