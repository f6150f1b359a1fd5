-- The stored nodes among the items that an expression gives, and the targets of an update, are nodes of documents that are there
-- and that the expression names.
use Rattle.std.specs.Prelude.{◌≡◌, ℕ, Bool, true, false, ◌||◌, cond, IsTrue, List, [], ◌∷◌, bytes_eq, Option, None, is_some, Result, Ok, Err, refl}
use Rattle.std.specs.List.{list_any}
use Rattle.std.proofs.Common.{sym, ap, subst, ◌∙◌}
use Rattle.std.proofs.lemmas.Bool.{or_right}
use Rattle.xq_ast.specs.Documents.{documents}
use Rattle.xq_ast.specs.declared.code.Code.{Code}
use Rattle.xq_ast.specs.declared.tree.Expr.{Expr}
use Rattle.xml_model.specs.declared.node.Doc.{Doc}
use Rattle.xml_model.specs.declared.place.PlaceStep.{PlaceStep}
use Rattle.xml_model.specs.DocumentOrder.{node_cmp, in_order}
use Rattle.xml_model.specs.Edits.{stored_in, stored_node, stored_nodes, targets_of, targets}
use Rattle.xml_model.specs.Evaluation.{meaning}
use Rattle.xml_model.specs.Items.{Documents, Tree, stored, constructed, Item, Items, node, string, integer, boolean, Made, plain, ◌>>?◌}
use Rattle.xml_model.specs.Nav.{Stored}
use Rattle.xml_model.specs.Tuples.{Bindings}
use Rattle.xml_model.proofs.Alike.{Each, each_gives, each_in_order, Fine, fine_then, Good, plain_good, good_then}
use Rattle.xml_model.proofs.Depths.{size, fits_at_size}
use Rattle.xml_model.proofs.Known.{Known, KnownItem, KnownItems}
use Rattle.xml_model.proofs.Lines.{same_bytes}
use Rattle.xml_model.proofs.QueryFrame.{alike_within}

-- ---- names in a list

-- the name stands in the list
abbrev pub IsAmong : List (List ℕ) → List ℕ → Type 0
IsAmong names name = IsTrue (list_any (bytes_eq name) names)

-- each name of a list stands in it
pub are_among : (names : List (List ℕ)) → Each (IsAmong names) names
are_among [] = tt
are_among (name ∷ names) = (
  ap (λ b. b || list_any (bytes_eq name) names) (same_bytes name),
  each_gives (IsAmong names) (IsAmong (name ∷ names)) (λ q e. or_right (bytes_eq q name) (list_any (bytes_eq q) names) e) names (are_among names),
)

-- ---- documents that are there

module _ (docs : Documents) (names : List (List ℕ)) where
  -- the name stands in the list, and there is a document of this name
  abbrev pub IsNamed : List ℕ → Type 0
  IsNamed name = IsAmong names name × IsTrue (is_some (docs name))

  -- a constructed tree, or a document with such a name
  abbrev pub IsTreeNamed : Tree → Type 0
  IsTreeNamed (stored name) = IsNamed name
  IsTreeNamed (constructed number) = Unit {0}

  -- an atomic value, or a node in such a tree
  abbrev pub IsItemNamed : Item → Type 0
  IsItemNamed (node n) = IsTreeNamed n.tree
  IsItemNamed (string text) = Unit {0}
  IsItemNamed (integer n) = Unit {0}
  IsItemNamed (boolean b) = Unit {0}

  -- a node of a document with such a name
  abbrev pub IsNodeNamed : Stored → Type 0
  IsNodeNamed n = IsNamed n.name

  -- the values of variables have such nodes alone
  abbrev pub AreNamedBindings : Bindings → Type 0
  AreNamedBindings = Each (λ v. Each IsItemNamed v.value)

  -- the documents with these names alone
  abbrev only : Documents
  only name = cond (list_any (bytes_eq name) names) (docs name) None

  must_be : (b : Bool) (o : Option Doc) → o ≡ cond b o None → IsTrue (is_some o) → IsTrue b
  must_be true o e there = refl
  must_be false o e there = sym (ap is_some e) ∙ there

  agrees : (name : List ℕ) → IsAmong names name → docs name ≡ only name
  agrees name e = sym (ap (λ b. cond b (docs name) None) e)

  tree_named : (t : Tree) → Known docs only t → IsTreeNamed t
  tree_named (stored name) k = (must_be (list_any (bytes_eq name) names) (docs name) k.0 k.1, k.1)
  tree_named (constructed number) k = tt

  tree_known : (t : Tree) → IsTreeNamed t → Known docs only t
  tree_known (stored name) k = (agrees name k.0, k.1)
  tree_known (constructed number) k = tt

  item_named : (item : Item) → KnownItem docs only item → IsItemNamed item
  item_named (node n) k = tree_named n.tree k
  item_named (string text) k = tt
  item_named (integer n) k = tt
  item_named (boolean b) k = tt

  item_known : (item : Item) → IsItemNamed item → KnownItem docs only item
  item_known (node n) k = tree_known n.tree k
  item_known (string text) k = tt
  item_known (integer n) k = tt
  item_known (boolean b) k = tt

  -- ---- values

  items_named : (r : Result (Items × Made) Code) → Good (KnownItems docs only) r → Good (Each IsItemNamed) r
  items_named (Ok both) k = each_gives (KnownItem docs only) IsItemNamed item_named both.0 k
  items_named (Err code) k = tt

  -- an expression that names no others, where variables have such nodes alone, gives such nodes alone
  pub bound_values_named : (e : Expr) → Each (IsAmong names) (documents e) → (env : Bindings) → AreNamedBindings env → (made : Made)
      → Good (Each IsItemNamed) (meaning docs e env None made)
  bound_values_named e h env v made =
      items_named (meaning docs e env None made)
      (alike_within docs only (size e) e (fits_at_size e) (each_gives (IsAmong names) (λ name. docs name ≡ only name) agrees (documents e) h) env None
      (each_gives (λ w. Each IsItemNamed w.value) (λ w. KnownItems docs only w.value)
      (λ w k. each_gives IsItemNamed (KnownItem docs only) item_known w.value k) env v)
      tt made).1

  -- ---- targets

  stored_in_named : (t : Tree) (place : List PlaceStep) → IsTreeNamed t → Fine IsNodeNamed (stored_in t place)
  stored_in_named (stored name) place k = k
  stored_in_named (constructed number) place k = tt

  stored_node_named : (item : Item) → IsItemNamed item → Fine IsNodeNamed (stored_node item)
  stored_node_named (node n) k = stored_in_named n.tree n.place k
  stored_node_named (string text) k = tt
  stored_node_named (integer n) k = tt
  stored_node_named (boolean b) k = tt

  stored_nodes_named : (items : Items) → Each IsItemNamed items → Fine (Each IsNodeNamed) (stored_nodes items)
  stored_nodes_named [] k = tt
  stored_nodes_named (item ∷ items) k =
      fine_then IsNodeNamed (Each IsNodeNamed) (λ n. stored_nodes items >>? (λ ns. Ok (n ∷ ns)))
      (λ n g. fine_then (Each IsNodeNamed) (Each IsNodeNamed) (λ ns. Ok (n ∷ ns)) (λ ns h. (g, h)) (stored_nodes items) (stored_nodes_named items k.1))
      (stored_node item) (stored_node_named item k.0)

  targets_of_named : (items : Items) → Each IsItemNamed items → Fine (Each IsNodeNamed) (targets_of items)
  targets_of_named items k =
      fine_then (Each IsNodeNamed) (Each IsNodeNamed) (λ ns. Ok (in_order node_cmp ns)) (λ ns g. each_in_order IsNodeNamed node_cmp ns g)
      (stored_nodes items) (stored_nodes_named items k)

module _ (docs : Documents) (e : Expr) (made : Made) where
  -- a stored node that an expression by itself gives is of a document that is there and that the expression names
  pub values_named : Good (Each (IsItemNamed docs (documents e))) (meaning docs e [] None made)
  values_named = bound_values_named docs (documents e) e (are_among (documents e)) [] tt made

  -- the same of the items, where there are some
  pub items_are_named : (items : Items) (after : Made) → meaning docs e [] None made ≡ Ok (items, after) → Each (IsItemNamed docs (documents e)) items
  items_are_named items after is = subst (Good (Each (IsItemNamed docs (documents e)))) is values_named

  -- each target is a node of a document that is there and that the expression names
  pub targets_named : Good (Each (IsNodeNamed docs (documents e))) (targets docs (meaning docs e) made)
  targets_named =
      good_then (Each (IsItemNamed docs (documents e))) (Each (IsNodeNamed docs (documents e))) (λ items. plain (targets_of items))
      (λ items k after. plain_good (Each (IsNodeNamed docs (documents e))) (targets_of items) after (targets_of_named docs (documents e) items k))
      (meaning docs e [] None made) values_named

  -- the same of the nodes, where there are some
  pub targets_are_named : (nodes : List Stored) (after : Made) → targets docs (meaning docs e) made ≡ Ok (nodes, after)
      → Each (IsNodeNamed docs (documents e)) nodes
  targets_are_named nodes after is = subst (Good (Each (IsNodeNamed docs (documents e)))) is targets_named
