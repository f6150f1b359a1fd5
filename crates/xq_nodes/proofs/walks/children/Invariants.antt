use Rattle.std.proofs.Common.{◌≡◌, ◌++◌, map, drop}
use Rattle.std.specs.List.{filter}
use Rattle.xq_nodes.specs.Walks.{is_child}
use Rattle.xq_nodes.proofs.walks.children.Given as goal

abbrev pub invariant-loop-m : goal.invariant-loop-m
invariant-loop-m g l = g.N.Nav.honest l.nav →
    map (g.N.Nav.place l.nav) l.all ++ filter (is_child (g.N.Nav.forest l.nav)) (map (g.N.Nav.place l.nav) (drop l.m-index l.m-items))
    ≡ filter (is_child (g.N.Nav.forest l.nav)) (map (g.N.Nav.place l.nav) l.m-items)
