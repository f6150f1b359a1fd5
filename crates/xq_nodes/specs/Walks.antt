-- What nodes tell: whether they are attributes, and their texts.
use Rattle.std.specs.Prelude.{ℕ, List, [], Bool, true, false, not, cond}
use Rattle.std.specs.List.{flat_map}
use Rattle.xq_ast.specs.declared.kind.Kind.{Kind}
use Rattle.xq_ast.specs.declared.kind.Kind.TheVariants as kind
use Rattle.xml_model.specs.Axes.{nodes_at, descendant_places}
use Rattle.xml_model.specs.Forest.{Forest}
use Rattle.xml_model.specs.Nav.{Told, Stored, stored_at, told_at}

abbrev pub is_of_attributes : Kind → Bool
is_of_attributes kind.Document = false
is_of_attributes kind.Element = false
is_of_attributes kind.Attribute = true
is_of_attributes kind.Text = false
is_of_attributes kind.Pi = false

abbrev pub is_of_texts : Kind → Bool
is_of_texts kind.Document = false
is_of_texts kind.Element = false
is_of_texts kind.Attribute = false
is_of_texts kind.Text = true
is_of_texts kind.Pi = false

-- elements and documents have no value of their own
abbrev pub is_whole : Kind → Bool
is_whole kind.Document = true
is_whole kind.Element = true
is_whole kind.Attribute = false
is_whole kind.Text = false
is_whole kind.Pi = false

abbrev pub is_attribute : Forest → Stored → Bool
is_attribute F node = is_of_attributes (told_at (stored_at F node)).kind

abbrev pub is_child : Forest → Stored → Bool
is_child F node = not (is_attribute F node)

-- a text's value; what tells anything else has none
abbrev pub text_of : Told → List ℕ
text_of told = cond (is_of_texts told.kind) told.value []

-- the texts among the nodes below a node, one after another
abbrev pub below_text : Forest → Stored → List ℕ
below_text F node = flat_map (λ n. text_of (told_at (stored_at F n))) (nodes_at descendant_places F node)
