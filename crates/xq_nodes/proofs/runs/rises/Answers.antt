use Rattle.xq_values.specs.Seen.{node_seen}
use Rattle.xq_nodes.proofs.Joins.{rise_on}
use Rattle.xq_nodes.proofs.runs.rises.Goals as goal

pub rising-preserved : goal.rising-preserved
rising-preserved g c = λ h r.
    c.rising.invariant h (rise_on (node_seen (g.N.Nav.place c.args.nav.now)) c.rising.left.now c.x-item.result c.y-item.result c.in-len1-up.len_at_least c.x-item.is
    c.in-len1-up-rest.len_at_least c.y-item.is (c.in_ok-is_before.ensures.gives h c.if-not-branch.false) r)
