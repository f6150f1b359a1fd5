use Rattle.xml_model.proofs.Validity.{empty_is_valid}
use Rattle.xml_model.proofs.changes.DocChanges.clear.Goals as goal

pub invariant_of-self : goal.invariant_of-self
invariant_of-self c = empty_is_valid c.clear.new.self.entries c.clear.ensures.len
