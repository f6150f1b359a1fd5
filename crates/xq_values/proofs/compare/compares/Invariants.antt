use Rattle.std.proofs.Common.{◌≡◌, drop}
use Rattle.xml_model.specs.Atoms as spec
use Rattle.xq_values.proofs.compare.compares.Given as goal

abbrev pub invariant-loop-atom : goal.invariant-loop-atom
invariant-loop-atom l = spec.compares l.op (drop l.atom-index l.left) l.right ≡ spec.compares l.op l.left l.right
