use Rattle.std.proofs.Common.{◌≡◌, ◌-◌, ◌≤◌, length, map, drop}
use Rattle.xq_edits.specs.Names.{changes_from}
use Rattle.xq_edits.specs.Seen.{change_seen}
use Rattle.xq_edits.proofs.names.skip_before.Given as goal

abbrev pub invariant-passing : goal.invariant-passing
invariant-passing g l = (l.at ≤ length l.done) × (g.N.Nav.honest l.nav →
    changes_from (g.N.Nav.place l.nav l.n) (map (change_seen (g.N.Nav.place l.nav)) (drop l.at l.done))
    ≡ changes_from (g.N.Nav.place l.nav l.n) (map (change_seen (g.N.Nav.place l.nav)) (drop l.fn.from l.done)))

abbrev pub decreases-passing : goal.decreases-passing
decreases-passing g l = length l.done - l.at
