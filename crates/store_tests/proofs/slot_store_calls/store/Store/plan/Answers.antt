use Rattle.store_tests.proofs.Resident.{fits_out}
use Rattle.store_tests.proofs.slot_store_calls.store.Store.plan.Goals as goal

pub plan-requires-clause-fits : goal.plan-requires-clause-fits
plan-requires-clause-fits c = fits_out c.args.state.now c.self.inside.versions c.self.inside.newest c.self.invariant.out
