use Rattle.std.proofs.Common.{◌≡◌, ◌≤◌, ◌++◌, ◌-◌, take, drop, length}
use Rattle.page_versions.specs.Purging.{purge_below}
use Rattle.page_versions.proofs.chain.purge_from.Given as goal

abbrev pub invariant-loop-place : goal.invariant-loop-place
invariant-loop-place l = record {
  cut : take l.place l.versions.items ++ purge_below l.snapshots.slots l.above (drop l.place l.versions.items)
      ≡ take l.fn.place l.fn.versions.items ++ purge_below l.snapshots.slots l.fn.above (drop l.fn.place l.fn.versions.items);
  within : l.place ≤ length l.versions.items;
}

abbrev pub decreases-loop-place : goal.decreases-loop-place
decreases-loop-place l = length l.versions.items - l.place
