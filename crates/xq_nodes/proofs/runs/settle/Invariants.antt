use Rattle.std.proofs.Common.{◌≡◌, vec_len}
use Rattle.xq_values.specs.Seen.{node_seen}
use Rattle.xq_nodes.specs.Joins.{join_runs, AreMarked}
use Rattle.xq_nodes.proofs.runs.settle.Given as goal

abbrev pub invariant-settling : goal.invariant-settling
invariant-settling g l = g.N.Nav.honest l.nav → AreMarked (node_seen (g.N.Nav.place l.nav)) l.initial.runs.items →
    (join_runs (node_seen (g.N.Nav.place l.nav)) l.runs.items ≡ join_runs (node_seen (g.N.Nav.place l.nav)) l.initial.runs.items) × AreMarked (node_seen (g.N.Nav.place l.nav)) l.runs.items

abbrev pub decreases-settling : goal.decreases-settling
decreases-settling g l = vec_len l.runs
