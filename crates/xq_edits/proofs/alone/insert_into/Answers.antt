use Rattle.std.specs.FinMap as forests
use Rattle.std.proofs.Common.{map}
use Rattle.xml_model.specs.Edits as edits
use Rattle.xq_edits.specs.Seen.{content_seen}
use Rattle.xq_edits.proofs.EachAlone.{one_more, ended, finished}
use Rattle.xq_edits.proofs.alone.insert_into.Goals as goal

pub returns-in_err-what : goal.returns-in_err-what
returns-in_err-what g c = λ made.
    let nav = c.args.nav.now in
    let docs = forests.get (g.N.Nav.forest nav) in
    let place = g.N.Nav.place nav in
    let may = edits.into (content_seen c.args.content.now) in
    let xs = c.args.targets.now in
    ended docs place may made c.loop-target.changes xs c.loop-target.target-index _ c.loop-target-test.true
    (g.N.Nav.honest nav) (g.N.Nav.passes nav) c.from_residual.result c.in_err-what.field-0.0 (edits.each_alone docs may (map place xs) made)
    c.from_residual.ensures.1 c.in_err-what.ensures (λ h. c.loop-target.invariant h made)

pub loop-target-preserved : goal.loop-target-preserved
loop-target-preserved g c = λ h made.
    let nav = c.args.nav.now in
    let docs = forests.get (g.N.Nav.forest nav) in
    let place = g.N.Nav.place nav in
    let may = edits.into (content_seen c.args.content.now) in
    let xs = c.args.targets.now in
    one_more docs place may made c.loop-target.changes xs c.loop-target.target-index _ c.loop-target-test.true
    c.push.new.self c.in_ok-what.what (edits.each_alone docs may (map place xs) made)
    (c.in_ok-what.ensures h) c.in_ok-push.ensures.ok (c.loop-target.invariant h made)

pub returns : goal.returns
returns g c = λ made h.
    let nav = c.args.nav.now in
    let docs = forests.get (g.N.Nav.forest nav) in
    let place = g.N.Nav.place nav in
    let may = edits.into (content_seen c.args.content.now) in
    let xs = c.args.targets.now in
    finished docs place may made c.loop-target.changes xs c.loop-target.target-index (edits.each_alone docs may (map place xs) made)
    c.loop-target-test.false (c.loop-target.invariant h made)
