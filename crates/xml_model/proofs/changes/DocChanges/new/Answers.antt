use Rattle.xml_model.proofs.Validity.{empty_is_valid}
use Rattle.xml_model.proofs.changes.DocChanges.new.Goals as goal

pub invariant_of-result : goal.invariant_of-result
invariant_of-result c = empty_is_valid c.new.result.entries c.new.ensures.len
