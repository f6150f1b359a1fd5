-- Navigation: what stands first in a node, behind it and above it, and what a node tells of itself.
-- The root of a tree is a document, or a node that a query made; all but the last part speaks of one tree.
use Rattle.std.specs.Prelude.{ℕ, ◌+◌, nat_lt, if◌then◌else◌, List, [], ◌∷◌, ◌++◌, length, Option, None, Some}
use Rattle.std.specs.FinMap as map
use Rattle.std.specs.Option.{option_map, option_or, option_and, option_and_then}
use Rattle.xq_ast.specs.declared.kind.Kind.{Kind}
use Rattle.xq_ast.specs.declared.kind.Kind.TheVariants as kind
use Rattle.xml_model.specs.declared.node.Node.{out-Node}
use Rattle.xml_model.specs.declared.node.Node.TheOpen.{Node-F, Element, Text, Pi}
use Rattle.xml_model.specs.declared.place.PlaceStep.{PlaceStep}
use Rattle.xml_model.specs.declared.place.PlaceStep.TheVariants as steps
use Rattle.xml_model.specs.Forest.{Forest}
use Rattle.xml_model.specs.Place.{Placed, the_document, a_node, an_attribute, attrs_of, kids_of, placed_from}

-- what stands at a place of the tree
abbrev pub standing : Placed → List PlaceStep → Option Placed
standing root place = placed_from place (Some root)

-- The attributes of a node and then its children are one chain.

-- the step to the attribute, or to the child, of this number, where there is one
abbrev pub attr_step : Placed → ℕ → Option PlaceStep
attr_step from i = if nat_lt i (length (attrs_of from)) then Some (steps.Attr i) else None

abbrev pub kid_step : Placed → ℕ → Option PlaceStep
kid_step from i = if nat_lt i (length (kids_of from)) then Some (steps.Kid i) else None

-- to the first attribute, else to the first child
abbrev pub first_step : Placed → Option PlaceStep
first_step from = option_or (attr_step from 0) (kid_step from 0)

-- to what is next in the same chain
abbrev pub next_step : Placed → PlaceStep → Option PlaceStep
next_step from (steps.Attr i) = option_or (attr_step from (i + 1)) (kid_step from 0)
next_step from (steps.Kid i) = kid_step from (i + 1)

-- Places. Nothing is found from a place where nothing stands.

-- a place that is not the root's is the place above it and one step from there
pub record Ending : Type 0 where
  pub above : List PlaceStep
  pub last : PlaceStep

abbrev pub behind_step : PlaceStep → Option Ending → Ending
behind_step s None = record { above = []; last = s }
behind_step s (Some e) = record { above = s ∷ e.above; last = e.last }

abbrev pub ending : List PlaceStep → Option Ending
ending [] = None
ending (s ∷ place) = Some (behind_step s (ending place))

-- the place of the first attribute, else of the first child
abbrev pub first_place : Placed → List PlaceStep → Option (List PlaceStep)
first_place root place = option_and_then (λ from. option_map (λ s. place ++ s ∷ []) (first_step from)) (standing root place)

-- the place above it, and from there the step behind its own
abbrev pub behind_ending : Placed → Ending → Option (List PlaceStep)
behind_ending root e = option_and_then (λ from. option_map (λ s. e.above ++ s ∷ []) (next_step from e.last)) (standing root e.above)

abbrev pub next_place : Placed → List PlaceStep → Option (List PlaceStep)
next_place root place = option_and (standing root place) (option_and_then (behind_ending root) (ending place))

-- a root's own place has none above it
abbrev pub parent_place : Placed → List PlaceStep → Option (List PlaceStep)
parent_place root place = option_and (standing root place) (option_map (λ e. e.above) (ending place))

-- What a node tells of itself: its kind, its name, and its own value. Documents and texts have no name, and elements
-- and documents no value of their own.
pub record Told : Type 0 where
  pub kind : Kind
  pub name : List ℕ
  pub value : List ℕ

abbrev pub told_in : {X : Type 0} → Node-F X → Told
told_in (Element name attrs kids) = record { kind = kind.Element; name = name; value = [] }
told_in (Text value) = record { kind = kind.Text; name = []; value = value }
told_in (Pi target value) = record { kind = kind.Pi; name = target; value = value }

abbrev pub of_document : Told
of_document = record { kind = kind.Document; name = []; value = [] }

abbrev pub told_of : Placed → Told
told_of (the_document doc) = of_document
told_of (a_node n) = told_in (out-Node n)
told_of (an_attribute a) = record { kind = kind.Attribute; name = a.name; value = a.value }

-- what does not stand anywhere tells what a document tells
abbrev pub told_at : Option Placed → Told
told_at None = of_document
told_at (Some it) = told_of it

-- Forests. A stored node is a document's name and a place in that document.
pub record Stored : Type 0 where
  pub name : List ℕ
  pub place : List PlaceStep

abbrev pub tree_of : Forest → Stored → Option Placed
tree_of F node = option_map the_document (map.get F node.name)

abbrev pub stored_at : Forest → Stored → Option Placed
stored_at F node = option_and_then (λ root. standing root node.place) (tree_of F node)

-- another place of the same document
abbrev pub at_place : Stored → List PlaceStep → Stored
at_place node place = record { name = node.name; place = place }

abbrev pub gone : (Placed → List PlaceStep → Option (List PlaceStep)) → Forest → Stored → Option Stored
gone way F node = option_and_then (λ root. option_map (at_place node) (way root node.place)) (tree_of F node)

-- the document of this name, its first node, and so on, where there is one
abbrev pub root_of : Forest → List ℕ → Option Stored
root_of F name = option_map (λ doc. record { name = name; place = [] }) (map.get F name)

abbrev pub first_of_node : Forest → Stored → Option Stored
first_of_node = gone first_place

abbrev pub next_of_node : Forest → Stored → Option Stored
next_of_node = gone next_place

abbrev pub parent_of_node : Forest → Stored → Option Stored
parent_of_node = gone parent_place
