use Rattle.std.proofs.Common.{◌≡◌, ◌++◌, drop}
use Rattle.std.specs.List.{filter}
use Rattle.xq_edits.specs.Groups.{is_there, names_of, AreRoots}
use Rattle.xq_edits.proofs.documents.roots_of.Given as goal

abbrev pub invariant-loop-name : goal.invariant-loop-name
invariant-loop-name g l = g.N.Nav.honest l.nav →
    (names_of l.roots ++ filter (is_there (g.N.Nav.forest l.nav)) (drop l.name-index l.name-items) ≡ filter (is_there (g.N.Nav.forest l.nav)) l.name-items)
    × AreRoots (g.N.Nav.place l.nav) l.roots
