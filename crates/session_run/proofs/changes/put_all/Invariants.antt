use Rattle.std.proofs.Common.{◌≡◌, ◌≤◌, length}
use Rattle.std.specs.Vec.Iter.{into_iter_items, into_iter_len}
use Rattle.session_run.specs.Effects.{AreValidChanges, with_changes}
use Rattle.session_run.proofs.changes.put_all.Given as goal

-- the changes so far, with those that are left, are all; these are valid, and there is room for them
abbrev pub invariant-loop-change : goal.invariant-loop-change
invariant-loop-change l = record {
  all : with_changes (into_iter_items l.change-iterator) l.changes.changes ≡ with_changes l.fn.more l.initial.changes.changes;
  left : into_iter_len l.change-iterator ≡ length (into_iter_items l.change-iterator);
  valid : AreValidChanges (into_iter_items l.change-iterator);
  room : length (into_iter_items l.change-iterator) ≤ l.changes.room;
}
