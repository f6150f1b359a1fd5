use Rattle.std.proofs.Common.{◌≡◌, ◌++◌, map, drop}
use Rattle.xq_nodes.specs.MadeSteps.{made_node, attrs_fitting}
use Rattle.xq_nodes.proofs.made_steps.add_attributes.Given as goal

abbrev pub invariant-loop-attr : goal.invariant-loop-attr
invariant-loop-attr l =
    (l.i ≡ l.attr-index) × (l.place ≡ l.initial.place)
    × (l.all ++ map (made_node l.tree l.initial.place) (attrs_fitting l.test l.attr-index (drop l.attr-index l.attrs)) ≡ l.initial.all ++ map (made_node l.tree l.initial.place) (attrs_fitting l.test 0 l.attrs))
