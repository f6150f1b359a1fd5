use Rattle.std.proofs.Common.{◌≡◌, ◌++◌, ◌+◌, map, length}
use Rattle.xml_model.specs.DocumentOrder.{node_cmp, union}
use Rattle.xq_nodes.proofs.merging.merge.Given as goal

abbrev pub invariant-loop-left : goal.invariant-loop-left
invariant-loop-left g l = g.N.Nav.honest l.nav →
    map (g.N.Nav.place l.nav) l.all ++ union node_cmp (map (g.N.Nav.place l.nav) l.left) (map (g.N.Nav.place l.nav) l.right)
    ≡ union node_cmp (map (g.N.Nav.place l.nav) l.a) (map (g.N.Nav.place l.nav) l.b)

abbrev pub decreases-loop-left : goal.decreases-loop-left
decreases-loop-left g l = length l.left + length l.right
