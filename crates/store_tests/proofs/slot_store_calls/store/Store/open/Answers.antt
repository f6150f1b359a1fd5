use Rattle.std.proofs.Common.{subst, sym}
use Rattle.page_versions.specs.ChainMap.{ChainMap, chain_in}
use Rattle.page_versions.proofs.Callers.{newest_upto, upto_opened}
use Rattle.store_tests.proofs.Resident.{AllOut}
use Rattle.store_tests.proofs.slot_store_calls.store.Store.open.Goals as goal

pub open_snapshot-requires : goal.open_snapshot-requires
open_snapshot-requires c = newest_upto c.self.inside.versions c.self.inside.newest c.self.invariant.upto

pub invariant_of-self : goal.invariant_of-self
invariant_of-self c = record {
  upto = upto_opened c.self.inside.versions c.open_snapshot.new.self c.self.inside.newest c.open_snapshot.result c.self.invariant.upto
      c.open_snapshot.ensures.opened c.open_snapshot.ensures.others c.open_snapshot.ensures.chains c.open_snapshot.ensures.staged
      c.open_snapshot.ensures.err;
  out = λ id. subst (λ (m : ChainMap). AllOut (chain_in m id)) (sym c.open_snapshot.ensures.chains) (c.self.invariant.out id);
}
