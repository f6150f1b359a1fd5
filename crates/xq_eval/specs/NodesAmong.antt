-- The nodes of a list of items.
use Rattle.std.specs.Prelude.{List, [], ◌∷◌}
use Rattle.xq_values.specs.declared.item.Item.{Item}
use Rattle.xq_values.specs.declared.item.Item.TheVariants as item
use Rattle.xq_values.specs.declared.item.NodeId.{NodeId}
use Rattle.xml_model.specs.Items.{NodeAt, Items, node, string, integer, boolean}

abbrev pub nodes_among : Items → List NodeAt
nodes_among [] = []
nodes_among (node n ∷ items) = n ∷ nodes_among items
nodes_among (string text ∷ items) = nodes_among items
nodes_among (integer n ∷ items) = nodes_among items
nodes_among (boolean b ∷ items) = nodes_among items

-- the same of what they are seen as
abbrev pub ids_among : List Item → List NodeId
ids_among [] = []
ids_among (item.Node n ∷ items) = n ∷ ids_among items
ids_among (item.Text text ∷ items) = ids_among items
ids_among (item.Int value ∷ items) = ids_among items
ids_among (item.Truth value ∷ items) = ids_among items
