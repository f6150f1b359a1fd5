-- What the ids of plain trees stand for. A document's number is its turn among the names, in the order of their bytes,
-- and a node's number in its document is its turn in document order.
use Rattle.std.specs.Prelude.{◌≡◌, ℕ, ◌<◌, ◌^◌, List, [], ◌∷◌, map, length, string_bytes, bytes_eq, Option, None, Some, is_some, IsTrue, IfSome, slice_get, unwrap_or}
use Rattle.std.specs.FinMap as fin_map
use Rattle.std.specs.Map.{lookup}
use Rattle.std.specs.Option.{option_map_or}
use Rattle.std.specs.declared.string.String.{String}
use Rattle.xml_model.specs.declared.nav.Id.{Id}
use Rattle.xml_model.specs.declared.node.Doc.{Doc}
use Rattle.xml_model.specs.declared.place.PlaceStep.{PlaceStep}
use Rattle.xml_model.specs.declared.place.PlaceStep.TheVariants as steps
use Rattle.xml_model.specs.declared.tree_nav.Tree.{Tree}
use Rattle.xml_model.specs.Forest.{Forest}
use Rattle.xml_model.specs.Nav.{Stored}
use Rattle.xml_model.specs.Numbering.{place_of_number}
use Rattle.xml_model.specs.Place.{the_document}
use Rattle.xml_model.specs.TreeRows.{placed_by}

-- no document has the empty name
abbrev pub name_at : Forest → ℕ → List ℕ
name_at F n = unwrap_or (slice_get (fin_map.keys F) n) []

abbrev pub place_in : Option Doc → ℕ → List PlaceStep
place_in None n = steps.Kid n ∷ []
place_in (Some doc) n = place_of_number (the_document doc) n

abbrev pub node_of_id : Forest → Id → Stored
node_of_id F id = record { name = name_at F id.doc; place = place_in (fin_map.get F (name_at F id.doc)) id.node }

-- Trees of a forest, by the turn of their names.

abbrev pub tree_name : List Tree → ℕ → List ℕ
tree_name trees n = option_map_or (λ tree. tree.name) (slice_get trees n) []

-- the number at the name, in a table under names
abbrev pub turn_at : {A : Type 0} → List (String A × ℕ) → List ℕ → Option ℕ
turn_at turns name = lookup (λ key. bytes_eq name (string_bytes key)) turns

-- the table has the turn of each of the first trees at its name, and nothing else
pub record TellsTurns {A : Type 0} (trees : List Tree) (count : ℕ) (turns : List (String A × ℕ)) : Type 0 where
  pub right : (name : List ℕ) → IfSome (turn_at turns name) (λ turn. (turn < count) × (tree_name trees turn ≡ name))
  pub each : (turn : ℕ) → turn < count → IsTrue (is_some (turn_at turns (tree_name trees turn)))

-- a tree is that of the document of its name
pub record IsTreeOf (F : Forest) (tree : Tree) : Type 0 where
  pub doc : Doc
  pub found : fin_map.get F tree.name ≡ Some doc
  pub is : placed_by tree.rows.root ≡ the_document doc

abbrev pub AreTreesOf : Forest → List Tree → Type 0
AreTreesOf F [] = Unit {0}
AreTreesOf F (tree ∷ trees) = IsTreeOf F tree × AreTreesOf F trees

-- and each document has a tree
pub record StandFor (F : Forest) (trees : List Tree) : Type 0 where
  pub names : map (λ tree. tree.name) trees ≡ fin_map.keys F
  pub are : AreTreesOf F trees
  pub few : length trees < 2 ^ 32
