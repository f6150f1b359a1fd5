-- Steps over stored nodes: which nodes pass a test, and what comes of each node that stands in another one.
use Rattle.std.specs.Prelude.{Bool, true, false, not, ◌&&◌, cond, List, [], ◌∷◌}
use Rattle.xq_ast.specs.declared.kind.Kind.{Kind}
use Rattle.xq_ast.specs.declared.kind.Kind.TheVariants as kind
use Rattle.xq_ast.specs.declared.step.Test.{Test}
use Rattle.xq_ast.specs.declared.step.Test.TheVariants as test
use Rattle.xml_model.specs.Axes.{nodes_at, child_places, attribute_places, descendant_places}
use Rattle.xml_model.specs.Forest.{Forest}
use Rattle.xml_model.specs.Nav.{Told, Stored, stored_at, told_at}
use Rattle.xml_model.specs.Nodes.{has_name}
use Rattle.xq_nodes.specs.Walks.{is_attribute, is_of_texts}
use Rattle.xq_nodes.specs.declared.steps.Way.{Way}
use Rattle.xq_nodes.specs.declared.steps.Way.TheVariants as way

abbrev pub is_of_instructions : Kind → Bool
is_of_instructions kind.Document = false
is_of_instructions kind.Element = false
is_of_instructions kind.Attribute = false
is_of_instructions kind.Text = false
is_of_instructions kind.Pi = true

-- a name test takes elements, and on the attribute axis attributes; the first argument says whether it is that axis
abbrev pub is_named : Bool → Kind → Bool
is_named on_attributes kind.Document = false
is_named on_attributes kind.Element = not on_attributes
is_named on_attributes kind.Attribute = on_attributes
is_named on_attributes kind.Text = false
is_named on_attributes kind.Pi = false

-- whether what tells this passes the test
abbrev pub told_passes : Bool → Test → Told → Bool
told_passes on_attributes (test.Name wanted) told = is_named on_attributes told.kind && has_name wanted told.name
told_passes on_attributes test.AnyNode told = true
told_passes on_attributes test.Text told = is_of_texts told.kind
told_passes on_attributes test.Pi told = is_of_instructions told.kind

abbrev pub fits : Forest → Bool → Test → Stored → Bool
fits F on_attributes wanted node = told_passes on_attributes wanted (told_at (stored_at F node))

abbrev pub is_way_of_attributes : Way → Bool
is_way_of_attributes way.Children = false
is_way_of_attributes way.Attributes = true
is_way_of_attributes way.Descendants = false

-- what a way finds from a node
abbrev pub inside : Way → Forest → Stored → List Stored
inside way.Children F node = nodes_at child_places F node
inside way.Attributes F node = nodes_at attribute_places F node
inside way.Descendants F node = nodes_at descendant_places F node

-- what comes of an attribute, and of a child, that stands in the node
abbrev pub from_attribute : Way → Stored → List Stored
from_attribute way.Children node = []
from_attribute way.Attributes node = node ∷ []
from_attribute way.Descendants node = []

abbrev pub from_child : Way → Forest → Stored → List Stored
from_child way.Children F node = node ∷ []
from_child way.Attributes F node = []
from_child way.Descendants F node = node ∷ nodes_at descendant_places F node

abbrev pub with_way : Way → Forest → Stored → List Stored
with_way w F node = cond (is_attribute F node) (from_attribute w node) (from_child w F node)
