use Rattle.xq_edits.proofs.StoredTargets.{one_more, finished, stops}
use Rattle.xq_edits.proofs.targets.stored_nodes.Goals as goal

pub loop-item-preserved : goal.loop-item-preserved
loop-item-preserved c = λ place.
    one_more place c.loop-item.nodes c.push.new.self c.args.items.now c.loop-item.item-index c.item-item.result c.in_ok-id.id
    c.loop-item-test.true c.item-item.is (c.in_ok-id.ensures place) c.in_ok-push.ensures.ok (c.loop-item.invariant place)

pub returns : goal.returns
returns c = λ place.
    finished place c.loop-item.nodes c.args.items.now c.loop-item.item-index c.loop-item-test.false (c.loop-item.invariant place)

pub returns-in_err-id : goal.returns-in_err-id
returns-in_err-id c = λ place.
    stops place c.loop-item.nodes c.args.items.now c.loop-item.item-index c.item-item.result c.in_err-id.field-0.0
    c.from_residual.result c.from_residual.ensures.1 c.loop-item-test.true c.item-item.is (c.in_err-id.ensures place) (c.loop-item.invariant place)
