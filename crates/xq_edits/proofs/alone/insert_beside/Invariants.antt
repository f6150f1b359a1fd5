use Rattle.std.proofs.Common.{◌≡◌, map, drop}
use Rattle.std.specs.FinMap as forests
use Rattle.xml_model.specs.Edits as edits
use Rattle.xml_model.specs.Items.{Made}
use Rattle.xq_edits.specs.Seen.{put}
use Rattle.xq_edits.proofs.EachAlone.{changes_on}
use Rattle.xq_edits.proofs.alone.insert_beside.Given as goal

-- the changes so far, with those of the targets that are left, are those of all
abbrev pub invariant-loop-target : goal.invariant-loop-target
invariant-loop-target g l = g.N.Nav.honest l.nav → (made : Made) →
    let docs = forests.get (g.N.Nav.forest l.nav) in
    let place = g.N.Nav.place l.nav in
    let may = edits.beside (put l.side l.kids) in
    changes_on docs place may l.changes (drop l.target-index l.targets) made ≡ edits.each_alone docs may (map place l.targets) made
