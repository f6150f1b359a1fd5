use Rattle.std.proofs.Common.{◌≡◌, ◌++◌, map, drop}
use Rattle.xml_model.specs.Axes.{texts_in}
use Rattle.xml_model.specs.Trees.{joined}
use Rattle.xq_nodes.proofs.values.+texts.Given as goal

abbrev pub invariant-add_texts-loop-node : goal.invariant-add_texts-loop-node
invariant-add_texts-loop-node l = l.all ++ joined (map texts_in (drop l.node-index l.node-items)) ≡ l.initial.all ++ joined (map texts_in l.node-items)
