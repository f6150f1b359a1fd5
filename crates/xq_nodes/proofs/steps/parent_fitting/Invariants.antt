use Rattle.std.proofs.Common.{◌≡◌, false, ◌++◌, map, drop}
use Rattle.std.specs.List.{filter}
use Rattle.xq_nodes.specs.Steps.{fits}
use Rattle.xq_nodes.proofs.steps.parent_fitting.Given as goal

abbrev pub invariant-loop-parent : goal.invariant-loop-parent
invariant-loop-parent g l = g.N.Nav.honest l.nav →
    map (g.N.Nav.place l.nav) l.all ++ filter (fits (g.N.Nav.forest l.nav) false l.test) (map (g.N.Nav.place l.nav) (drop l.parent-index l.parent-items))
    ≡ filter (fits (g.N.Nav.forest l.nav) false l.test) (map (g.N.Nav.place l.nav) l.parent-items)
