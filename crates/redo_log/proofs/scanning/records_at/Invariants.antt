-- Whatever records, or whatever refusal, come from here, they come after those so far.
use Rattle.std.proofs.Common.{ℕ, List, ◌++◌, length}
use Rattle.redo_log.specs.declared.change.Change.{Change}
use Rattle.redo_log.specs.Reading.{AreRecords, IsRefused}
use Rattle.redo_log.proofs.scanning.records_at.Given as goal

abbrev pub invariant-loop-changes : goal.invariant-loop-changes
invariant-loop-changes l = record {
  follow : (cs : List Change) (end : List ℕ) → AreRecords l.store cs l.rest end → AreRecords l.initial.store (l.changes.items ++ cs) l.bytes end;
  refused : (cs : List Change) (left : ℕ) → IsRefused l.store cs l.rest left → IsRefused l.initial.store (l.changes.items ++ cs) l.bytes left;
}

-- how many bytes are left
abbrev pub decreases-loop-changes : goal.decreases-loop-changes
decreases-loop-changes l = length l.rest
