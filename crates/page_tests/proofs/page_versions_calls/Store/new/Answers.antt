use Rattle.page_versions.proofs.Callers.{empty_upto}
use Rattle.page_tests.proofs.page_versions_calls.Store.new.Goals as goal

pub invariant_of-result : goal.invariant_of-result
invariant_of-result c = empty_upto c.new.result c.new.ensures
