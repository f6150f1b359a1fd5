use Rattle.std.proofs.Common.{map, drop, arith, ap, ◌∙◌}
use Rattle.xq_edits.specs.Names.{names_of}
use Rattle.xq_edits.specs.Seen.{change_seen}
use Rattle.xq_edits.proofs.NameTests.{all_along}
use Rattle.xq_edits.proofs.names.attributes_after.Goals as goal

pub returns-clause-gives : goal.returns-clause-gives
returns-clause-gives g c = λ h.
    let place = g.N.Nav.place c.args.nav.now in
    let seen = map (change_seen place) in
    let items = c.as_slice-n-items.result.now in
    all_along (g.N.Nav.forest c.args.nav.now) (place c.args.element) (change_seen place c.args.last.now) (seen (drop c.loop-n.at c.args.done.now))
    (seen (drop c.in_ok-at.at c.args.done.now)) (seen c.args.done.now) place items c.loop-n.n-index (names_of c.loop-n.all) (omega arith)
    (ap (map place) c.as_slice-n-items.ensures ∙ c.in_ok-nodes.ensures.gives h)
    (c.in_ok-at.ensures.gives h (c.requires.rising h))
    (c.loop-n.invariant.1 h)
