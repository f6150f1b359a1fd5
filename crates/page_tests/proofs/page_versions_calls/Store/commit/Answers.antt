use Rattle.page_versions.proofs.Callers.{past_upto, upto_publish}
use Rattle.page_tests.proofs.page_versions_calls.Store.commit.Goals as goal

pub stage-requires-clause-past : goal.stage-requires-clause-past
stage-requires-clause-past c = past_upto c.self.inside.versions c.self.inside.newest c.self.invariant

pub invariant_of-self-2 : goal.invariant_of-self-2
invariant_of-self-2 c =
    upto_publish c.self.inside.versions c.stage.new.self c.publish.new.self c.self.inside.newest c.args.changes.now c.args.dropped.now c.self.invariant
    c.in_ok-stage.ensures.chains c.in_ok-stage.ensures.snapshots c.in_ok-stage.ensures.staged c.publish.ensures.chains c.publish.ensures.snapshots
    c.publish.ensures.staged
