use Rattle.std.proofs.Common.{◌++◌, map, ap}
use Rattle.std.specs.List.{filter}
use Rattle.std.specs.Option.{option_map}
use Rattle.xml_model.specs.Nav.{Stored}
use Rattle.xq_nodes.specs.Steps.{fits, inside, is_way_of_attributes, with_way}
use Rattle.xq_nodes.proofs.Chain.{turned_into, ended, lower}
use Rattle.xq_nodes.proofs.Stepping.{begun}
use Rattle.xq_nodes.proofs.steps.+inside.Goals as goal

pub add_inside-loop-at-init : goal.add_inside-loop-at-init
add_inside-loop-at-init g t c =
    let F = g.N.Nav.forest c.args.nav.now in
    let place = g.N.Nav.place c.args.nav.now in
    let p = fits F (is_way_of_attributes c.args.way) c.args.test.now in
    (λ h. ap (λ l. map place c.args.all.now ++ l) (begun p c.args.way F (place c.args.n) (option_map place c.in_ok-at.at) (c.in_ok-at.ensures.gives h)), c.in_ok-at.ensures.falls)

pub add_inside-loop-at-preserved : goal.add_inside-loop-at-preserved
add_inside-loop-at-preserved g t c =
    let F = g.N.Nav.forest c.args.nav.now in
    let place = g.N.Nav.place c.args.nav.now in
    let number = g.N.Nav.number c.args.nav.now in
    let p = fits F (is_way_of_attributes c.args.way) c.args.test.now in
    let whole = map place c.args.all.now ++ filter p (inside c.args.way F (place c.args.n)) in (
      λ h. turned_into F place c.in-Some.m c.loop-at.at c.in_ok-at-2.at c.in-Some.is (c.in_ok-at-2.ensures.gives h) (λ (s : Stored). filter p (with_way c.args.way F s)) (map place c.loop-at.all)
          (map place c.add_one.new.all) whole (c.in_ok-add_one.ensures.gives h) (c.loop-at.invariant.0 h),
      lower number c.in-Some.m c.loop-at.at c.in_ok-at-2.at (number c.args.n) c.in-Some.is c.loop-at.invariant.1 c.in_ok-at-2.ensures.falls,
    )

pub add_inside-returns-clause-gives : goal.add_inside-returns-clause-gives
add_inside-returns-clause-gives g t c = λ h.
    let F = g.N.Nav.forest c.args.nav.now in
    let place = g.N.Nav.place c.args.nav.now in
    let p = fits F (is_way_of_attributes c.args.way) c.args.test.now in
    ended F place (λ (s : Stored). filter p (with_way c.args.way F s)) c.loop-at.at (map place c.loop-at.all) (map place c.args.all.now ++ filter p (inside c.args.way F (place c.args.n))) c.in_default.is
    (c.loop-at.invariant.0 h)
