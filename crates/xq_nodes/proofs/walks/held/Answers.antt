use Rattle.xml_model.specs.Axes.{held_nodes}
use Rattle.xq_nodes.proofs.Chain.{turned, lower}
use Rattle.xq_nodes.proofs.walks.held.Goals as goal

pub loop-at-preserved : goal.loop-at-preserved
loop-at-preserved g c =
    let F = g.N.Nav.forest c.args.nav.now in
    let place = g.N.Nav.place c.args.nav.now in
    let number = g.N.Nav.number c.args.nav.now in (
      λ h. turned F place c.in-Some.m c.loop-at.at c.in_ok-at-2.at c.in-Some.is (c.in_ok-at-2.ensures.gives h) c.loop-at.all c.push.new.self (held_nodes F (place c.args.n))
          c.in_ok-push.ensures.ok (c.loop-at.invariant.0 h),
      lower number c.in-Some.m c.loop-at.at c.in_ok-at-2.at (number c.args.n) c.in-Some.is c.loop-at.invariant.1 c.in_ok-at-2.ensures.falls,
    )
