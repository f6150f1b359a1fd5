use Rattle.std.proofs.Common.{◌≡◌, drop}
use Rattle.xml_model.specs.Atoms as spec
use Rattle.xq_values.proofs.compare.some_right.Given as goal

abbrev pub invariant-loop-atom : goal.invariant-loop-atom
invariant-loop-atom l = spec.some_right l.op l.left (drop l.atom-index l.right) ≡ spec.some_right l.op l.left l.right
