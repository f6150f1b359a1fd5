-- Steps without predicates, from many nodes.
use Rattle.std.specs.Prelude.{◌==◌, ◌&&◌, Bool, true, false, List, [], length, Ok}
use Rattle.xq_ast.specs.declared.step.Axis.{Axis}
use Rattle.xq_ast.specs.declared.step.Axis.TheVariants as axis
use Rattle.xq_ast.specs.declared.step.Test.{Test}
use Rattle.xq_ast.specs.declared.tree.Step.{Step}
use Rattle.xml_model.specs.Evaluation.{from_each}
use Rattle.xml_model.specs.Items.{Documents, NodeAt, Making, look}
use Rattle.xml_model.specs.Nodes.{tested}

-- where an axis leads from a node, tested
abbrev pub tested_from : Documents → Axis → Test → NodeAt → Making (List NodeAt)
tested_from docs way wanted n = look (λ made. Ok (tested docs made way wanted n))

-- from each of the nodes, in document order, each once
abbrev pub tested_each : Documents → Axis → Test → List NodeAt → Making (List NodeAt)
tested_each docs way wanted = from_each (tested_from docs way wanted) []

abbrev pub is_child : Axis → Bool
is_child axis.Child = true
is_child axis.Descendant = false
is_child axis.DescendantOrSelf = false
is_child axis.Itself = false
is_child axis.Attribute = false
is_child axis.Parent = false

-- the step takes all children that pass its test
abbrev pub takes_children : Step → Bool
takes_children s = is_child s.axis && (length s.preds == 0)
