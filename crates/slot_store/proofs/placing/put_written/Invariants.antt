-- What is left to put decides.
use Rattle.std.proofs.Common.{◌≡◌, drop}
use Rattle.slot_store.specs.Planned.{with_written}
use Rattle.slot_store.proofs.placing.put_written.Given as goal

abbrev pub invariant-loop-page : goal.invariant-loop-page
invariant-loop-page l = with_written (drop l.page-index l.placed) l.table ≡ with_written l.placed l.fn.table
