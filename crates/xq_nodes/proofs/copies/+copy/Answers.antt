use Rattle.std.specs.Option.{option_map}
use Rattle.xml_model.specs.Nav.{stored_at}
use Rattle.xq_nodes.specs.declared.copies.Inside.{Inside}
use Rattle.xq_nodes.proofs.Chain.{lower}
use Rattle.xq_nodes.proofs.Copying.{begun, copied_on}
use Rattle.xq_nodes.proofs.copies.+copy.Goals as goal

pub copy_inside-loop-at-init : goal.copy_inside-loop-at-init
copy_inside-loop-at-init g t c =
    let F = g.N.Nav.forest c.args.nav.now in
    let place = g.N.Nav.place c.args.nav.now in
    let start : Inside = record { attrs = c.new.result; kids = c.new-2.result } in
    (λ h. begun F (place c.args.n) start (option_map place c.in_ok-at.at) c.new.ensures c.new-2.ensures (c.in_ok-at.ensures.gives h), c.in_ok-at.ensures.falls)

pub copy_inside-loop-at-preserved : goal.copy_inside-loop-at-preserved
copy_inside-loop-at-preserved g t c =
    let F = g.N.Nav.forest c.args.nav.now in
    let place = g.N.Nav.place c.args.nav.now in
    let number = g.N.Nav.number c.args.nav.now in (
      λ h. copied_on F place c.in-Some.m c.loop-at.at c.in_ok-at-2.at c.in-Some.is (c.in_ok-at-2.ensures.gives h) (stored_at F (place c.args.n)) c.loop-at.inside c.add.new.inside
          c.in_ok-copy.field-0 c.in_ok-add.ensures (c.in_ok-copy.ensures.gives h) (c.loop-at.invariant.0 h),
      lower number c.in-Some.m c.loop-at.at c.in_ok-at-2.at (number c.args.n) c.in-Some.is c.loop-at.invariant.1 c.in_ok-at-2.ensures.falls,
    )
