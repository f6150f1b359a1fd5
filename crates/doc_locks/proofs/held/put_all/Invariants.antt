use Rattle.std.proofs.Common.{◌≡◌, ◌≤◌, length}
use Rattle.indexmap.specs.IndexMap.{spare}
use Rattle.doc_locks.specs.Names.{names_of_entries}
use Rattle.doc_locks.specs.Locks.{with_needs}
use Rattle.doc_locks.proofs.held.put_all.Given as goal

-- the needs that are left, put in after those so far, make the whole, and there is room for them
abbrev pub invariant-loop-need : goal.invariant-loop-need
invariant-loop-need l = record {
  put : with_needs l.need-iterator.rest.items (names_of_entries l.modes.entries) ≡ with_needs l.fn.needs.items (names_of_entries l.fn.modes.entries);
  room : length l.need-iterator.rest.items ≤ spare l.modes;
}
