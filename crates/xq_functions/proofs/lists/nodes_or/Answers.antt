use Rattle.std.proofs.Common.{ap, sym, ◌∙◌}
use Rattle.xq_values.specs.declared.item.Item.TheVariants as item
use Rattle.xq_functions.proofs.NodeLists.{stopped, one_more, finished}
use Rattle.xq_functions.proofs.lists.nodes_or.Goals as goal

pub returns-in_default : goal.returns-in_default
returns-in_default c = λ place.
    stopped place c.args.code c.loop-item.all c.args.items.now c.loop-item.item-index c.item-item.result
    c.loop-item-test.true c.item-item.is c.in_default.ensures (c.loop-item.invariant place)

pub loop-item-preserved : goal.loop-item-preserved
loop-item-preserved c = λ place.
    one_more place c.args.code c.loop-item.all c.push.new.self c.args.items.now c.loop-item.item-index c.item-item.result c.in_ok-copy.field-0
    c.loop-item-test.true c.item-item.is (c.in-Some.ensures ∙ ap (λ id. item.Node id) (sym c.in_ok-copy.ensures))
    c.in_ok-push.ensures.ok (c.loop-item.invariant place)

pub returns : goal.returns
returns c = λ place.
    finished place c.args.code c.loop-item.all c.args.items.now c.loop-item.item-index c.loop-item-test.false (c.loop-item.invariant place)
