use Rattle.std.proofs.Common.{◌≡◌, ◌++◌, map, drop}
use Rattle.xml_model.specs.TreeNodes.{AreTreesOf}
use Rattle.xml_model.proofs.tree_nav.trees_of.Given as goal

abbrev pub invariant-loop-name : goal.invariant-loop-name
invariant-loop-name l = (map (λ tree. tree.name) l.trees.items ++ drop l.name-index l.name-items ≡ l.name-items) × AreTreesOf l.docs l.trees.items
