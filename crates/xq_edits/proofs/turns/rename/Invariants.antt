use Rattle.std.proofs.Common.{◌≡◌, [], ◌++◌, length, map}
use Rattle.std.specs.FinMap as forests
use Rattle.xml_model.specs.DocumentOrder.{node_cmp}
use Rattle.xml_model.specs.Items.{Made}
use Rattle.xq_nodes.specs.Joins.{Rises}
use Rattle.xq_edits.specs.Seen.{change_seen}
use Rattle.xq_edits.specs.Turns.{nodes_of}
use Rattle.xq_edits.proofs.Renaming.{renamed_each}
use Rattle.xq_edits.proofs.turns.rename.Given as goal

abbrev pub invariant-each : goal.invariant-each
invariant-each g l = g.N.Nav.honest l.nav →
    ((made : Made) → renamed_each (forests.get (g.N.Nav.forest l.nav)) l.name (map (change_seen (g.N.Nav.place l.nav)) l.done)
    (map (g.N.Nav.place l.nav) l.left) made
    ≡ renamed_each (forests.get (g.N.Nav.forest l.nav)) l.name [] (map (g.N.Nav.place l.nav) l.targets) made)
    × Rises node_cmp (nodes_of (map (change_seen (g.N.Nav.place l.nav)) l.done) ++ map (g.N.Nav.place l.nav) l.left)

abbrev pub decreases-each : goal.decreases-each
decreases-each g l = length l.left
