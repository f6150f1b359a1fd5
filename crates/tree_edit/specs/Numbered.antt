-- Edits by the numbers of their nodes in document order, and what stands in the place of nodes by these numbers.
use Rattle.std.specs.Prelude.{◌≡◌, ℕ, ◌+◌, ◌≤◌, ◌==◌, if◌then◌else◌, List, [], ◌∷◌, ◌++◌, map, length, drop, Option, None, Some}
use Rattle.xml_model.specs.declared.node.Attr.{Attr}
use Rattle.xml_model.specs.declared.node.Node.{Node}
use Rattle.xml_model.specs.declared.node.Node.TheOpen.{Node-F}
use Rattle.xml_model.specs.declared.node.Node.TheFolds.{fold-Node}
use Rattle.xml_model.specs.declared.node.Node.TheVariants.{Text, Pi}
use Rattle.xml_model.specs.Trees.{total}
use Rattle.xml_model.specs.declared.edit.Edit.{Edit}
use Rattle.xml_model.specs.declared.edit.EditKind.{EditKind}
use Rattle.xml_model.specs.Rebuild.{edited_attribute, edited_element, edited_leaf}

-- ---- edits

-- what is done at a number
abbrev pub look : List Edit → ℕ → Option EditKind
look [] n = None
look (e ∷ more) n = if e.at == n then Some e.what else look more n

-- the numbers rise, and the first is no less than this one
abbrev pub RisesFrom : ℕ → List Edit → Type 0
RisesFrom n [] = Unit {0}
RisesFrom n (e ∷ more) = (n ≤ e.at) × RisesFrom (e.at + 1) more

-- the edits from one on are all those at this number or a greater one
pub record IsAt (edits : List Edit) (number next : ℕ) : Type 0 where
  pub rises : RisesFrom number (drop next edits)
  pub same : (n : ℕ) → number ≤ n → look edits n ≡ look (drop next edits) n

-- ---- nodes

-- a node: how many nodes it is with all that stands in it, and what stands in its place where it has a number
pub record Numbered : Type 0 where
  pub size : ℕ
  pub made : ℕ → List Node

-- nodes one after another, the first of which has this number
abbrev pub numbered_kids : ℕ → List Numbered → List Node
numbered_kids n [] = []
numbered_kids n (kid ∷ more) = kid.made n ++ numbered_kids (n + kid.size) more

module _ (at : ℕ → Option EditKind) where
  abbrev pub numbered_attributes : ℕ → List Attr → List Attr
  numbered_attributes n [] = []
  numbered_attributes n (a ∷ more) = edited_attribute a (at n) ++ numbered_attributes (n + 1) more

  abbrev pub numbered_step : Node-F Numbered → Numbered
  numbered_step (Node-F.Element name attrs kids) = record {
    size = 1 + length attrs + total (map (λ kid. kid.size) kids);
    made = λ n. edited_element name (numbered_attributes (n + 1) attrs) (numbered_kids (n + 1 + length attrs) kids) (at n);
  }
  numbered_step (Node-F.Text value) = record { size = 1; made = λ n. edited_leaf (Text value) (λ name. Text value) (at n) }
  numbered_step (Node-F.Pi target value) = record { size = 1; made = λ n. edited_leaf (Pi target value) (λ name. Pi name value) (at n) }

  abbrev pub numbered : Node → Numbered
  numbered = fold-Node Numbered numbered_step

  -- what stands in the place of the node with this number
  abbrev pub numbered_node : Node → ℕ → List Node
  numbered_node node n = (numbered node).made n

  -- what stands in the place of nodes, the first of which has this number
  abbrev pub numbered_nodes : List Node → ℕ → List Node
  numbered_nodes nodes n = numbered_kids n (map numbered nodes)
