use Rattle.std.proofs.Common.{subst}
use Rattle.page_versions.specs.Kept.{IsExact}
use Rattle.page_versions.proofs.Sounding.{exact, falls}
use Rattle.page_versions.proofs.versions.Versions.exact.Goals as goal

pub returns : goal.returns
returns c = subst IsExact c.self.view_is
    (record {
      exact = exact c.self.inside.table c.self.inside.snapshots.slots c.self.inside.staged c.self.inside.touched.items c.self.inside.older.items _ _
          c.self.invariant;
      falling =
          falls c.self.inside.table c.self.inside.snapshots.slots c.self.inside.staged c.self.inside.touched.items c.self.inside.older.items _ _
          c.self.invariant;
    })
