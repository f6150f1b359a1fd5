use Rattle.page_versions.proofs.Callers.{upto_end}
use Rattle.page_tests.proofs.page_versions_calls.Store.end.Goals as goal

pub invariant_of-self : goal.invariant_of-self
invariant_of-self c =
    upto_end c.self.inside.versions c.end_snapshot.new.self c.self.inside.newest c.args.key c.self.invariant c.end_snapshot.ensures.chains
    c.end_snapshot.ensures.snapshots c.end_snapshot.ensures.staged
