use Rattle.std.proofs.Common.{◌≡◌, map}
use Rattle.std.specs.VecDeque.{deque_len}
use Rattle.xml_model.specs.DocumentOrder.{union, in_order}
use Rattle.xml_model.specs.Nodes.{node_cmp}
use Rattle.xq_values.specs.Seen.{node_seen}
use Rattle.xq_nodes.specs.Joins.{joined_seen, IsRight}
use Rattle.xq_nodes.proofs.lists.joined_one_by_one.Given as goal

abbrev pub invariant-each : goal.invariant-each
invariant-each g l = g.N.Nav.honest l.nav → IsRight (node_seen (g.N.Nav.place l.nav)) l.joining
    × (union node_cmp (joined_seen (node_seen (g.N.Nav.place l.nav)) l.joining) (in_order node_cmp (map (node_seen (g.N.Nav.place l.nav)) l.left.items)) ≡ in_order node_cmp (map (node_seen (g.N.Nav.place l.nav)) l.initial.left.items))

abbrev pub decreases-each : goal.decreases-each
decreases-each g l = deque_len l.left
