use Rattle.std.proofs.Common.{◌≡◌, map, drop}
use Rattle.xml_model.specs.Nav.{Stored}
use Rattle.xml_model.specs.Nodes.{nodes_or}
use Rattle.xml_model.specs.declared.nav.Id.{Id}
use Rattle.xq_values.specs.Seen.{item_seen}
use Rattle.xq_functions.proofs.NodeLists.{behind}
use Rattle.xq_functions.proofs.lists.nodes_or.Given as goal

-- the nodes found, with those of the items that are left, are those of all items
abbrev pub invariant-loop-item : goal.invariant-loop-item
invariant-loop-item l = (place : Id → Stored) → behind place l.code l.all (drop l.item-index l.items) ≡ nodes_or l.code (map (item_seen place) l.items)
