-- Steps in a constructed tree: the ways from a node that pass a test.
use Rattle.std.specs.Prelude.{ℕ, ◌+◌, if◌then◌else◌, Bool, true, false, List, [], ◌∷◌, ◌++◌, map, filter, slice_get, Option, Some, None}
use Rattle.std.specs.Option.{option_map, option_map_or, option_and}
use Rattle.xq_ast.specs.declared.step.Axis.{Axis}
use Rattle.xq_ast.specs.declared.step.Axis.TheVariants as axis
use Rattle.xq_ast.specs.declared.step.Test.{Test}
use Rattle.xml_model.specs.declared.node.Attr.{Attr}
use Rattle.xml_model.specs.declared.node.Node.{Node}
use Rattle.xml_model.specs.declared.place.PlaceStep.{PlaceStep}
use Rattle.xml_model.specs.declared.place.PlaceStep.TheVariants as steps
use Rattle.xml_model.specs.Axes.{into_each, ways_down}
use Rattle.xml_model.specs.Nodes.{passes, passes_at}
use Rattle.xml_model.specs.Place.{Placed, a_node, an_attribute, attrs_of, kids_of, placed_from}
use Rattle.xml_model.specs.Items.{Made}
use Rattle.xml_model.specs.Nav.{Ending, ending}
use Rattle.xq_values.specs.declared.item.NodeId.{NodeId}
use Rattle.xq_values.specs.declared.item.NodeId.TheVariants as id

-- whether what stands at the end of the way passes
abbrev pub way_fits : Bool → Test → Placed → List PlaceStep → Bool
way_fits on_attributes wanted from way = passes_at on_attributes wanted (placed_from way (Some from))

-- from a child itself, or with all below it, by its own ways
abbrev pub ways_from : Bool → Node → List (List PlaceStep)
ways_from false n = [] ∷ []
ways_from true n = ways_down n

abbrev pub ways_fitting : Bool → Test → Node → List (List PlaceStep)
ways_fitting deep wanted n = filter (way_fits false wanted (a_node n)) (ways_from deep n)

abbrev pub kids_fitting : Bool → Test → ℕ → List Node → List (List PlaceStep)
kids_fitting deep wanted i kids = into_each i (map (ways_fitting deep wanted) kids)

-- the node of a constructed tree at the end of a way from a place
abbrev pub made_node : ℕ → List PlaceStep → List PlaceStep → NodeId
made_node tree place way = id.Made (record { tree = tree; place = place ++ way })

-- the node at a place, where it passed
abbrev pub made_where : Bool → ℕ → List PlaceStep → List NodeId
made_where true tree place = id.Made (record { tree = tree; place = place }) ∷ []
made_where false tree place = []

-- the attributes that pass, numbered from here on
abbrev pub attrs_fitting : Test → ℕ → List Attr → List (List PlaceStep)
attrs_fitting wanted i [] = []
attrs_fitting wanted i (a ∷ attrs) = if passes true wanted (an_attribute a) then (steps.Attr i ∷ []) ∷ attrs_fitting wanted (i + 1) attrs else attrs_fitting wanted (i + 1) attrs

-- ---- axes

-- the children, and the attributes, of what stands somewhere
abbrev pub kids_at : Option Placed → List Node
kids_at None = []
kids_at (Some it) = kids_of it

abbrev pub attrs_at : Option Placed → List Attr
attrs_at None = []
attrs_at (Some it) = attrs_of it

abbrev pub standing_made : Made → ℕ → List PlaceStep → Option Placed
standing_made made tree place = placed_from place (slice_get made tree)

-- the node itself, where it passes
abbrev pub itself_fitting : Made → Test → ℕ → List PlaceStep → List NodeId
itself_fitting made wanted tree place = made_where (passes_at false wanted (standing_made made tree place)) tree place

-- the place above it, where something stands at both
abbrev pub place_above : Made → ℕ → List PlaceStep → Option (List PlaceStep)
place_above made tree place = option_and (standing_made made tree place) (option_map (λ (e : Ending). e.above) (ending place))

abbrev pub children_fitting : Made → Test → Bool → ℕ → List PlaceStep → List NodeId
children_fitting made wanted deep tree place = map (made_node tree place) (kids_fitting deep wanted 0 (kids_at (standing_made made tree place)))

-- the nodes of an axis that pass the test
abbrev pub axis_fitting : Axis → Made → Test → ℕ → List PlaceStep → List NodeId
axis_fitting axis.Child made wanted tree place = children_fitting made wanted false tree place
axis_fitting axis.Descendant made wanted tree place = children_fitting made wanted true tree place
axis_fitting axis.DescendantOrSelf made wanted tree place = itself_fitting made wanted tree place ++ children_fitting made wanted true tree place
axis_fitting axis.Itself made wanted tree place = itself_fitting made wanted tree place
axis_fitting axis.Attribute made wanted tree place = map (made_node tree place) (attrs_fitting wanted 0 (attrs_at (standing_made made tree place)))
axis_fitting axis.Parent made wanted tree place = option_map_or (itself_fitting made wanted tree) (place_above made tree place) []
