use Rattle.std.proofs.Common.{◌≡◌, [], map, drop}
use Rattle.xml_model.specs.Nodes as spec
use Rattle.xq_values.specs.Seen.{item_seen, node_seen}
use Rattle.xq_functions.proofs.lists.united_all.Given as goal

abbrev pub invariant-loop-list : goal.invariant-loop-list
invariant-loop-list g l = g.N.Nav.honest l.nav →
    spec.united_all (map (node_seen (g.N.Nav.place l.nav)) l.all) (map (map (item_seen (g.N.Nav.place l.nav))) (drop l.list-index l.lists))
    ≡ spec.united_all [] (map (map (item_seen (g.N.Nav.place l.nav))) l.lists)
