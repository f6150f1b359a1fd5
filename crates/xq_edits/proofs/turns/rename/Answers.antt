use Rattle.std.proofs.Common.{[], map, ap, ◌∙◌}
use Rattle.std.specs.FinMap as forests
use Rattle.xq_edits.specs.Seen.{change_seen}
use Rattle.xq_edits.proofs.Renaming.{renamed_each, all_renamed, exits_so}
use Rattle.xq_edits.proofs.turns.rename.Goals as goal

pub returns-in_err-what : goal.returns-in_err-what
returns-in_err-what g c = λ made.
    let place = g.N.Nav.place c.args.nav.now in
    let docs = forests.get (g.N.Nav.forest c.args.nav.now) in
    exits_so (g.N.Nav.honest c.args.nav.now) (g.N.Nav.passes c.args.nav.now) (map (change_seen place)) c.from_residual.result c.in_err-what.field-0.0 made
    place docs c.args.name.now (map (change_seen place) c.as_slice.result.now) c.each.left.now
    (renamed_each docs c.args.name.now [] (map place c.args.targets.now) made) c.from_residual.ensures.1 c.in-len1-up.len_at_least c.in_err-what.ensures
    (λ h. ap (λ d. renamed_each docs c.args.name.now (map (change_seen place) d) (map place c.each.left.now) made) c.as_slice.ensures
    ∙ (c.each.invariant h).0 made)

pub returns : goal.returns
returns g c = λ made h.
    let place = g.N.Nav.place c.args.nav.now in
    let docs = forests.get (g.N.Nav.forest c.args.nav.now) in
    all_renamed place docs c.args.name.now (map (change_seen place) c.each.done) c.each.left.now made
    (renamed_each docs c.args.name.now [] (map place c.args.targets.now) made) c.in_default.len_below ((c.each.invariant h).0 made)
