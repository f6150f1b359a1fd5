-- The pages that are left, put in after those so far.
use Rattle.std.proofs.Common.{◌≡◌, drop}
use Rattle.std.specs.FinMap as map
use Rattle.redo_log.specs.Store.{with_ids}
use Rattle.redo_log.proofs.store.table_of.Given as goal

abbrev pub invariant-loop-id : goal.invariant-loop-id
invariant-loop-id l = with_ids (drop l.id-index l.ids) l.table ≡ with_ids l.ids map.empty
