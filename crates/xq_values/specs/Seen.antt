-- Nodes, items and constructed trees as the definitions of evaluation see them, where it is known for which node each
-- id of a stored one stands.
use Rattle.std.specs.Prelude.{List, map}
use Rattle.xml_model.specs.declared.nav.Id.{Id}
use Rattle.xml_model.specs.Nav.{Stored}
use Rattle.xml_model.specs.Place.{Placed, a_node, an_attribute}
use Rattle.xml_model.specs.Items.{NodeAt, Made, stored, constructed, node, string, integer, boolean}
use Rattle.xml_model.specs.Items as items
use Rattle.xq_values.specs.declared.item.NodeId.{NodeId}
use Rattle.xq_values.specs.declared.item.NodeId.TheVariants as id
use Rattle.xq_values.specs.declared.item.Item.{Item}
use Rattle.xq_values.specs.declared.item.Item.TheVariants as item
use Rattle.xq_values.specs.declared.item.MadeRoot.{MadeRoot}
use Rattle.xq_values.specs.declared.item.MadeRoot.TheVariants as root

abbrev pub node_seen : (Id → Stored) → NodeId → NodeAt
node_seen place (id.Stored n) = record { tree = stored (place n).name; place = (place n).place }
node_seen place (id.Made at) = record { tree = constructed at.tree; place = at.place }

abbrev pub item_seen : (Id → Stored) → Item → items.Item
item_seen place (item.Node n) = node (node_seen place n)
item_seen place (item.Text text) = string text
item_seen place (item.Int value) = integer value
item_seen place (item.Truth value) = boolean value

abbrev pub root_seen : MadeRoot → Placed
root_seen (root.Node n) = a_node n
root_seen (root.Attribute a) = an_attribute a

abbrev pub made_seen : List MadeRoot → Made
made_seen roots = map root_seen roots
