use Rattle.std.proofs.Common.{◌≡◌, ◌++◌, ◌≤◌, length, map, drop}
use Rattle.xq_edits.specs.Names.{names_of, names_along}
use Rattle.xq_edits.specs.Seen.{change_seen}
use Rattle.xq_edits.proofs.names.attributes_after.Given as goal

abbrev pub invariant-loop-n : goal.invariant-loop-n
invariant-loop-n g l = (l.at ≤ length l.done) × (g.N.Nav.honest l.nav →
    names_of l.all ++ names_along (g.N.Nav.forest l.nav) (change_seen (g.N.Nav.place l.nav) l.last)
    (map (change_seen (g.N.Nav.place l.nav)) (drop l.at l.done)) (map (g.N.Nav.place l.nav) (drop l.n-index l.n-items))
    ≡ names_along (g.N.Nav.forest l.nav) (change_seen (g.N.Nav.place l.nav) l.last) (map (change_seen (g.N.Nav.place l.nav)) (drop l.initial.at l.done))
    (map (g.N.Nav.place l.nav) l.n-items))
