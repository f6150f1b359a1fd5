use Rattle.std.proofs.Common.{◌≡◌, map, drop}
use Rattle.std.specs.FinMap as forests
use Rattle.xml_model.specs.Evaluation.{from_each}
use Rattle.xq_nodes.specs.Joins.{joined_seen, IsRight}
use Rattle.xq_values.specs.Seen.{made_seen, node_seen}
use Rattle.xq_eval.specs.Paths.{tested_from, tested_each}
use Rattle.xq_eval.proofs.paths.tested_each.Given as goal

abbrev pub invariant-loop-n : goal.invariant-loop-n
invariant-loop-n g l = g.N.Nav.honest l.nav → IsRight (node_seen (g.N.Nav.place l.nav)) l.joining ×
    (from_each (tested_from (forests.get (g.N.Nav.forest l.nav)) l.axis l.test) (joined_seen (node_seen (g.N.Nav.place l.nav)) l.joining) (map (node_seen
    (g.N.Nav.place l.nav)) (drop l.n-index l.nodes)) (made_seen l.made)
    ≡ tested_each (forests.get (g.N.Nav.forest l.nav)) l.axis l.test (map (node_seen (g.N.Nav.place l.nav)) l.nodes) (made_seen l.made))
