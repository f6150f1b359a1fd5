use Rattle.std.proofs.Common.{◌≡◌, ◌++◌}
use Rattle.doc_locks.proofs.Sorting.{needs_in}
use Rattle.doc_locks.proofs.held.HeldNames.into_needs.Given as goal

abbrev pub invariant-loop-name : goal.invariant-loop-name
invariant-loop-name l = l.needs ++ needs_in l.name-iterator ≡ needs_in l.initial.name-iterator
