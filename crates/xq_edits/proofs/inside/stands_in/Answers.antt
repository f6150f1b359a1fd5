use Rattle.std.proofs.Common.{◌∙◌, sym}
use Rattle.xq_edits.specs.Inside.{is_inside}
use Rattle.xq_edits.proofs.Within.{begun, one_up, passed}
use Rattle.xq_edits.proofs.inside.stands_in.Goals as goal

pub up-init : goal.up-init
up-init g c = λ h there.
    begun (g.N.Nav.forest c.args.nav.now) (g.N.Nav.place c.args.nav.now) c.args.n c.args.outer c.in_ok-above.above there (c.in_ok-above.ensures.gives h)

pub up-preserved : goal.up-preserved
up-preserved g c = λ h there.
    let place = g.N.Nav.place c.args.nav.now in
    one_up (g.N.Nav.forest c.args.nav.now) place (is_inside (place c.args.n) (place c.args.outer)) c.in-Some.m c.args.outer c.up.above
    c.in_ok-above-in-Less.above c.in-Some.is (c.up.invariant h there) (sym c.in-Less.is ∙ c.in_ok-order_of.ensures.gives h)
    (c.in_ok-above-in-Less.ensures.gives h)

pub returns-in-Greater-clause-gives : goal.returns-in-Greater-clause-gives
returns-in-Greater-clause-gives g c = λ h there.
    let place = g.N.Nav.place c.args.nav.now in
    passed (g.N.Nav.forest c.args.nav.now) place (is_inside (place c.args.n) (place c.args.outer)) c.in-Some.m c.args.outer c.up.above
    c.in-Some.is (c.up.invariant h there).0 (sym c.in-Greater.is ∙ c.in_ok-order_of.ensures.gives h)
