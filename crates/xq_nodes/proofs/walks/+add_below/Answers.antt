use Rattle.std.proofs.Common.{◌++◌, ◌∙◌, map, ap}
use Rattle.std.specs.List.{flat_map}
use Rattle.xml_model.specs.Axes.{held_nodes}
use Rattle.xq_nodes.proofs.Chain.{turned_into, ended, lower}
use Rattle.xq_nodes.proofs.Parts.{with_below, parts, child_turn, attribute_turn}
use Rattle.xq_nodes.proofs.walks.+add_below.Goals as goal
use Rattle.xq_nodes.proofs.walks.+add_below.Goals.{then-not-branch+in_ok-push+in_ok-add_below, else-not-branch}

pub loop-at-preserved : goal.loop-at-preserved
loop-at-preserved g t c =
    let F = g.N.Nav.forest c.args.nav.now in
    let place = g.N.Nav.place c.args.nav.now in
    let number = g.N.Nav.number c.args.nav.now in
    let whole = map place c.args.all.now ++ flat_map (with_below F) (held_nodes F (place c.args.n)) in
    let falls = lower number c.in-Some.m c.loop-at.at c.in_ok-at-2.at (number c.args.n) c.in-Some.is c.loop-at.invariant.1 c.in_ok-at-2.ensures.falls in
    elim c.if-not-branch.branch [
      | then-not-branch+in_ok-push+in_ok-add_below w ↦ (
        λ h. turned_into F place c.in-Some.m c.loop-at.at c.in_ok-at-2.at c.in-Some.is (c.in_ok-at-2.ensures.gives h) (with_below F) (map place c.loop-at.all) (map place c.if-not-branch.all) whole
            (ap (map place) w.all-is
            ∙ child_turn F place c.in-Some.m c.loop-at.all w.push.new.self w.add_below.new.all c.in_ok-is_attribute.field-0 (c.in_ok-is_attribute.ensures.gives h)
            w.if-not-branch.true w.in_ok-push.ensures.ok (w.in_ok-add_below.ensures.gives h))
            (c.loop-at.invariant.0 h),
        falls,
      )
      | else-not-branch w ↦ (
        λ h. turned_into F place c.in-Some.m c.loop-at.at c.in_ok-at-2.at c.in-Some.is (c.in_ok-at-2.ensures.gives h) (with_below F) (map place c.loop-at.all) (map place c.if-not-branch.all) whole
            (ap (map place) w.all-is
            ∙ attribute_turn F place c.in-Some.m c.loop-at.all c.in_ok-is_attribute.field-0 (c.in_ok-is_attribute.ensures.gives h) w.if-not-branch.false)
            (c.loop-at.invariant.0 h),
        falls,
      )
    ]

pub returns-clause-gives : goal.returns-clause-gives
returns-clause-gives g t c = λ h.
    let F = g.N.Nav.forest c.args.nav.now in
    let place = g.N.Nav.place c.args.nav.now in
    let node = place c.args.n in
    ended F place (with_below F) c.loop-at.at (map place c.loop-at.all) (map place c.args.all.now ++ flat_map (with_below F) (held_nodes F node)) c.in_default.is (c.loop-at.invariant.0 h)
    ∙ ap (λ rest. map place c.args.all.now ++ rest) (parts F node).2
