-- What is left to read decides.
use Rattle.std.proofs.Common.{◌≡◌, ◌≤◌, ◌-◌, [], length}
use Rattle.redo_log.specs.Reading.{pages_at}
use Rattle.redo_log.proofs.pages.pages_at.Given as goal

abbrev pub invariant-loop : goal.invariant-loop
invariant-loop l = record {
  so_far : pages_at (l.count - l.counter) l.pages.items l.store l.rest ≡ pages_at l.count [] l.store l.bytes;
  shorter : length l.rest ≤ length l.bytes;
}
