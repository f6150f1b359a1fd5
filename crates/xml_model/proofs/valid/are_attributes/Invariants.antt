use Rattle.std.proofs.Common.{◌≡◌, length}
use Rattle.xml_model.specs.Document as spec
use Rattle.xml_model.proofs.valid.are_attributes.Given as goal

abbrev pub invariant-loop-rest : goal.invariant-loop-rest
invariant-loop-rest l = spec.are_attributes l.rest ≡ spec.are_attributes l.initial.rest

abbrev pub decreases-loop-rest : goal.decreases-loop-rest
decreases-loop-rest l = length l.rest
