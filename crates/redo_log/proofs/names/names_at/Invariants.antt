-- What is left to read decides, and the store has taken the names so far.
use Rattle.std.proofs.Common.{◌≡◌, ◌≤◌, ◌-◌, [], length}
use Rattle.redo_log.specs.Reading.{names_at}
use Rattle.redo_log.specs.Store.{after_names}
use Rattle.redo_log.proofs.names.names_at.Given as goal

abbrev pub invariant-loop : goal.invariant-loop
invariant-loop l = record {
  so_far : names_at l.commit (l.count - l.counter) l.names.items l.store l.rest ≡ names_at l.commit l.count [] l.initial.store l.bytes;
  taken : l.store ≡ after_names l.names.items l.initial.store;
  shorter : length l.rest ≤ length l.bytes;
}
