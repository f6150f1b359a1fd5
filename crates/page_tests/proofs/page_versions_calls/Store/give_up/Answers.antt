use Rattle.page_versions.proofs.Callers.{past_upto, upto_retract}
use Rattle.page_tests.proofs.page_versions_calls.Store.give_up.Goals as goal

pub stage-requires-clause-past : goal.stage-requires-clause-past
stage-requires-clause-past c = past_upto c.self.inside.versions c.self.inside.newest c.self.invariant

pub invariant_of-self-then-self-lt18446744073709551615 : goal.invariant_of-self-then-self-lt18446744073709551615
invariant_of-self-then-self-lt18446744073709551615 c =
    upto_retract c.self.inside.versions c.stage.new.self c.retract.new.self c.self.inside.newest c.args.changes.now c.args.dropped.now c.self.invariant
    c.in_ok-stage.ensures.chains c.in_ok-stage.ensures.snapshots c.in_ok-stage.ensures.staged c.retract.ensures.chains c.retract.ensures.snapshots
    c.retract.ensures.staged
