use Rattle.std.proofs.Common.{◌≡◌, true, ◌++◌, map, drop}
use Rattle.xq_nodes.specs.MadeSteps.{made_node, kids_fitting}
use Rattle.xq_nodes.proofs.made_steps.+below.Given as goal

abbrev pub invariant-add_descendants-loop-kid : goal.invariant-add_descendants-loop-kid
invariant-add_descendants-loop-kid l =
    (l.i ≡ l.kid-index) × (l.place ≡ l.initial.place)
    × (l.all ++ map (made_node l.tree l.initial.place) (kids_fitting true l.test l.kid-index (drop l.kid-index l.kid-items)) ≡ l.initial.all ++ map (made_node l.tree l.initial.place) (kids_fitting true l.test 0 l.kid-items))
