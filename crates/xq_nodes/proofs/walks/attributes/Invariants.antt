use Rattle.std.proofs.Common.{◌≡◌, ◌++◌, map, drop}
use Rattle.std.specs.List.{filter}
use Rattle.xq_nodes.specs.Walks.{is_attribute}
use Rattle.xq_nodes.proofs.walks.attributes.Given as goal

abbrev pub invariant-loop-m : goal.invariant-loop-m
invariant-loop-m g l = g.N.Nav.honest l.nav →
    map (g.N.Nav.place l.nav) l.all ++ filter (is_attribute (g.N.Nav.forest l.nav)) (map (g.N.Nav.place l.nav) (drop l.m-index l.m-items))
    ≡ filter (is_attribute (g.N.Nav.forest l.nav)) (map (g.N.Nav.place l.nav) l.m-items)
