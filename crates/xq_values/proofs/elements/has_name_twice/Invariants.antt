use Rattle.std.proofs.Common.{◌≡◌, length}
use Rattle.xml_model.specs.Constructors as spec
use Rattle.xq_values.proofs.elements.has_name_twice.Given as goal

abbrev pub invariant-loop-rest : goal.invariant-loop-rest
invariant-loop-rest l = spec.has_name_twice l.rest ≡ spec.has_name_twice l.attrs

abbrev pub decreases-loop-rest : goal.decreases-loop-rest
decreases-loop-rest l = length l.rest
