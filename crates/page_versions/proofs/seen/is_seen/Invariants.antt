use Rattle.std.proofs.Common.{◌≡◌, drop}
use Rattle.std.specs.List.{list_any}
use Rattle.page_versions.specs.Purging.{is_between}
use Rattle.page_versions.proofs.seen.is_seen.Given as goal

abbrev pub invariant-loop-key : goal.invariant-loop-key
invariant-loop-key l = list_any (is_between l.from l.to) (drop l.key l.snapshots.slots) ≡ list_any (is_between l.from l.to) l.snapshots.slots
