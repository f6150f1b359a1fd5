use Rattle.page_versions.proofs.Callers.{newest_upto, upto_opened}
use Rattle.page_tests.proofs.page_versions_calls.Store.open.Goals as goal

pub open_snapshot-requires : goal.open_snapshot-requires
open_snapshot-requires c = newest_upto c.self.inside.versions c.self.inside.newest c.self.invariant

pub invariant_of-self : goal.invariant_of-self
invariant_of-self c =
    upto_opened c.self.inside.versions c.open_snapshot.new.self c.self.inside.newest c.open_snapshot.result c.self.invariant c.open_snapshot.ensures.opened
    c.open_snapshot.ensures.others
    c.open_snapshot.ensures.chains c.open_snapshot.ensures.staged c.open_snapshot.ensures.err
