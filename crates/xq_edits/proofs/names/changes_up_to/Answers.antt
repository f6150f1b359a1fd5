use Rattle.std.proofs.Common.{ap, arith}
use Rattle.std.specs.Ordering.{is_lt}
use Rattle.xq_edits.proofs.NamesAlong.{up_to_passed}
use Rattle.xq_edits.proofs.names.changes_up_to.Goals as goal

pub returns-in-Equal-clause-gives : goal.returns-in-Equal-clause-gives
returns-in-Equal-clause-gives g c = λ h r n less.
    let place = g.N.Nav.place c.args.nav.now in
    up_to_passed place c.args.done.now c.back.from c.index-done-from.result (place c.args.element) n c.in_ok-order_of.field-0 c.back.invariant (omega arith)
    (c.in_ok-order_of.ensures.gives h) (ap is_lt c.in-Equal.is) r less

pub returns-in-Greater-clause-gives : goal.returns-in-Greater-clause-gives
returns-in-Greater-clause-gives g c = λ h r n less.
    let place = g.N.Nav.place c.args.nav.now in
    up_to_passed place c.args.done.now c.back.from c.index-done-from.result (place c.args.element) n c.in_ok-order_of.field-0 c.back.invariant (omega arith)
    (c.in_ok-order_of.ensures.gives h) (ap is_lt c.in-Greater.is) r less
