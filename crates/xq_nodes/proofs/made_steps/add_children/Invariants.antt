use Rattle.std.proofs.Common.{◌≡◌, false, ◌++◌, map, drop}
use Rattle.xq_nodes.specs.MadeSteps.{made_node, kids_fitting}
use Rattle.xq_nodes.proofs.made_steps.add_children.Given as goal

abbrev pub invariant-loop-kid : goal.invariant-loop-kid
invariant-loop-kid l =
    (l.i ≡ l.kid-index) × (l.place ≡ l.initial.place)
    × (l.all ++ map (made_node l.tree l.initial.place) (kids_fitting false l.test l.kid-index (drop l.kid-index l.kid-items)) ≡ l.initial.all ++ map (made_node l.tree l.initial.place) (kids_fitting false l.test 0 l.kid-items))
