use Rattle.std.proofs.Common.{map, length}
use Rattle.xml_model.specs.Nodes.{node_cmp}
use Rattle.xq_values.specs.Seen.{node_seen}
use Rattle.xq_nodes.specs.Joins.{Rises}
use Rattle.xq_nodes.proofs.runs.rises.Given as goal

abbrev pub invariant-rising : goal.invariant-rising
invariant-rising g l = g.N.Nav.honest l.nav → Rises node_cmp (map (node_seen (g.N.Nav.place l.nav)) l.left) → Rises node_cmp (map (node_seen (g.N.Nav.place l.nav)) l.nodes)

abbrev pub decreases-rising : goal.decreases-rising
decreases-rising g l = length l.left
