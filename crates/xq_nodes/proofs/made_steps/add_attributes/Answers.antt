use Rattle.std.proofs.Common.{◌++◌, map, ◌∙◌, arith}
use Rattle.xq_nodes.specs.MadeSteps.{made_node, attrs_fitting}
use Rattle.xq_nodes.proofs.MadeStepping.{attr_turn}
use Rattle.xq_nodes.proofs.made_steps.add_attributes.Goals as goal

pub loop-attr-preserved : goal.loop-attr-preserved
loop-attr-preserved c =
    let attrs = c.args.attrs.now in
    let whole = c.args.all.now ++ map (made_node c.args.tree c.args.place.now) (attrs_fitting c.args.test.now 0 attrs) in (
      omega arith,
      c.in_ok-add_attribute.ensures.place ∙ c.loop-attr.invariant.1,
      attr_turn c.args.test.now c.args.tree c.args.place.now attrs c.loop-attr.attr-index c.loop-attr.i c.attr-item.result c.loop-attr.place c.loop-attr.all c.add_attribute.new.all whole
          c.loop-attr-test.true c.attr-item.is c.loop-attr.invariant.0 c.loop-attr.invariant.1 c.in_ok-add_attribute.ensures.all c.loop-attr.invariant.2,
    )
