use Rattle.std.proofs.Common.{◌≡◌, drop}
use Rattle.xml_model.specs.Atoms as spec
use Rattle.xq_values.specs.Sums as sums
use Rattle.xq_values.proofs.sum.sum_of.Given as goal

abbrev pub invariant-loop-atom : goal.invariant-loop-atom
invariant-loop-atom l = sums.summed l.total (drop l.atom-index l.atoms) ≡ spec.sum_of l.atoms
