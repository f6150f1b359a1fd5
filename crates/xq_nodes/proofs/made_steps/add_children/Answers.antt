use Rattle.std.proofs.Common.{false, ◌++◌, map, ◌∙◌, arith}
use Rattle.xq_nodes.specs.MadeSteps.{made_node, kids_fitting}
use Rattle.xq_nodes.proofs.MadeStepping.{kid_turn}
use Rattle.xq_nodes.proofs.made_steps.add_children.Goals as goal

pub loop-kid-preserved : goal.loop-kid-preserved
loop-kid-preserved c =
    let kids = c.as_slice-kid-items.result.now in
    let whole = c.args.all.now ++ map (made_node c.args.tree c.args.place.now) (kids_fitting false c.args.test.now 0 kids) in (
      omega arith,
      c.in_ok-add_child.ensures.place ∙ c.loop-kid.invariant.1,
      kid_turn false c.args.test.now c.args.tree c.args.place.now kids c.loop-kid.kid-index c.loop-kid.i c.kid-item.result c.loop-kid.place c.loop-kid.all c.add_child.new.all whole c.loop-kid-test.true c.kid-item.is
          c.loop-kid.invariant.0 c.loop-kid.invariant.1 c.in_ok-add_child.ensures.all c.loop-kid.invariant.2,
    )
