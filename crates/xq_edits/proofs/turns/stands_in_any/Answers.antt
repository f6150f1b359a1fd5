use Rattle.std.proofs.Common.{map, sym}
use Rattle.std.specs.List.{list_any}
use Rattle.xml_model.specs.Edits as spec
use Rattle.xq_edits.specs.Inside.{IsThere, is_inside}
use Rattle.xq_edits.specs.Seen.{change_seen}
use Rattle.xq_edits.proofs.Outermost.{stands_in_last, as_any}
use Rattle.xq_edits.proofs.turns.stands_in_any.Goals as goal

pub returns-clause-gives : goal.returns-clause-gives
returns-clause-gives g c =
    let place = g.N.Nav.place c.args.nav.now in
    let n = place c.args.target in
    let last = c.in-Some.last.now in
    as_any (g.N.Nav.honest c.args.nav.now) (IsThere (g.N.Nav.forest c.args.nav.now) n) c.stands_in.result (is_inside n (place last.node))
    (list_any (spec.stands_in n) (map (change_seen place) c.args.done.now))
    (λ h. stands_in_last place c.args.done.now last n (sym c.in-Some.ensures.value) (c.requires.rising h) (c.requires.apart h))
    c.stands_in.ensures.gives
