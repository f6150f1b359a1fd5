use Rattle.page_versions.proofs.Callers.{past_upto, upto_publish}
use Rattle.store_tests.proofs.Resident.{out_published}
use Rattle.store_tests.proofs.slot_store_calls.store.Store.commit.Goals as goal

pub stage-requires-clause-past : goal.stage-requires-clause-past
stage-requires-clause-past c = past_upto c.self.inside.versions c.self.inside.newest c.self.invariant.upto

pub invariant_of-self-2 : goal.invariant_of-self-2
invariant_of-self-2 c = record {
  upto = upto_publish c.self.inside.versions c.stage.new.self c.publish.new.self c.self.inside.newest c.in_ok-changes.changes c.of-dropped.result
      c.self.invariant.upto c.in_ok-stage.ensures.chains c.in_ok-stage.ensures.snapshots c.in_ok-stage.ensures.staged c.publish.ensures.chains
      c.publish.ensures.snapshots c.publish.ensures.staged;
  out = out_published c.self.inside.versions c.stage.new.self c.publish.new.self _ _ _ c.self.invariant.out c.in_ok-stage.ensures.chains
      c.publish.ensures.chains;
}
