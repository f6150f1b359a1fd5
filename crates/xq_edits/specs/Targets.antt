-- Targets among nodes of any tree.
use Rattle.std.specs.Prelude.{List, map, Option, Some, None, Result, Ok}
use Rattle.xq_ast.specs.declared.code.Code.{Code}
use Rattle.xml_model.specs.declared.nav.Id.{Id}
use Rattle.xml_model.specs.Edits.{stored_nodes}
use Rattle.xml_model.specs.Items.{Items, NodeAt, stored, ◌>>?◌}
use Rattle.xml_model.specs.Nav.{Stored}
use Rattle.xq_values.specs.declared.item.NodeId.{NodeId}
use Rattle.xq_values.specs.declared.item.NodeId.TheVariants as id

-- the id of a node of a document; a node that was constructed has none
abbrev pub stored_id : NodeId → Option Id
stored_id (id.Stored n) = Some n
stored_id (id.Made at) = None

-- a node of a document among those of any tree
abbrev pub in_tree : Stored → NodeAt
in_tree n = record { tree = stored n.name; place = n.place }

-- the nodes of documents that items are, among those of any tree
abbrev pub nodes_in_trees : Items → Result (List NodeAt) Code
nodes_in_trees items = stored_nodes items >>? (λ ns. Ok (map in_tree ns))
