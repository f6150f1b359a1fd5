use Rattle.std.proofs.Common.{subst, sym}
use Rattle.page_versions.specs.Kept.{Kept, chain_of}
use Rattle.page_versions.proofs.Paging.{chain_in-empty}
use Rattle.page_versions.proofs.Callers.{empty_upto}
use Rattle.store_tests.proofs.Resident.{AllOut}
use Rattle.store_tests.proofs.slot_store_calls.store.Store.new.Goals as goal

pub invariant_of-result : goal.invariant_of-result
invariant_of-result c = record {
  upto = empty_upto c.new.result c.new.ensures;
  out = λ id. subst (λ (k : Kept). AllOut (chain_of k id)) (sym c.new.ensures) (subst AllOut (sym (chain_in-empty id)) tt);
}
