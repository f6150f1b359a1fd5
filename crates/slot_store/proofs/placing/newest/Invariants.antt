-- What is left decides.
use Rattle.std.proofs.Common.{◌≡◌, drop}
use Rattle.page_versions.specs.Chains.{version_at}
use Rattle.slot_store.proofs.placing.newest.Given as goal

abbrev pub invariant-loop-version : goal.invariant-loop-version
invariant-loop-version l = version_at (drop l.version-index l.version-items) l.commit ≡ version_at l.version-items l.commit
