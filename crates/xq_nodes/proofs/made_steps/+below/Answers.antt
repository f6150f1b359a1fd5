use Rattle.std.proofs.Common.{true, ◌++◌, map, ap, ◌∙◌, arith}
use Rattle.xq_nodes.specs.MadeSteps.{made_node, kids_fitting, ways_fitting}
use Rattle.xml_model.specs.Place.{a_node, kids_of}
use Rattle.xq_nodes.proofs.MadeStepping.{kid_turn, whole_added}
use Rattle.xq_nodes.proofs.StringValues.{kids-Element}
use Rattle.xq_nodes.proofs.made_steps.+below.Goals as goal

pub add_descendants-loop-kid-preserved : goal.add_descendants-loop-kid-preserved
add_descendants-loop-kid-preserved t c =
    let kids = c.as_slice-kid-items.result.now in
    let whole = c.args.all.now ++ map (made_node c.args.tree c.args.place.now) (kids_fitting true c.args.test.now 0 kids) in (
      omega arith,
      c.in_ok-add_whole.ensures.place ∙ c.loop-kid.invariant.1,
      kid_turn true c.args.test.now c.args.tree c.args.place.now kids c.loop-kid.kid-index c.loop-kid.i c.kid-item.result c.loop-kid.place c.loop-kid.all c.add_whole.new.all whole c.loop-kid-test.true c.kid-item.is
          c.loop-kid.invariant.0 c.loop-kid.invariant.1 c.in_ok-add_whole.ensures.all c.loop-kid.invariant.2,
    )

pub add_whole-returns-in_ok-add_descendants-in-Element-clause-all : goal.add_whole-returns-in_ok-add_descendants-in-Element-clause-all
add_whole-returns-in_ok-add_descendants-in-Element-clause-all t c =
    let wanted = c.args.test.now in
    let kid = c.args.kid.now in
    whole_added wanted c.args.tree c.push.new.self kid c.in-Element.kids c.node_passes.result c.args.all.now c.add_made.new.all c.add_descendants.new.all c.node_passes.ensures
    (ap (λ n. kids_of (a_node n)) c.in-Element.is ∙ kids-Element c.in-Element.name c.in-Element.attrs c.in-Element.kids) c.in_ok-add_made.ensures
    c.in_ok-add_descendants-in-Element.ensures.all
    ∙ ap (λ here. c.args.all.now ++ map (made_node c.args.tree here) (ways_fitting true wanted kid)) c.in_ok-push.ensures.ok
