use Rattle.std.proofs.Common.{All, take}
use Rattle.doc_locks.specs.Locks.{IsFree}
use Rattle.doc_locks.proofs.table.LockTable.first_conflict.Given as goal

-- the needs so far are free
abbrev pub invariant-loop-place : goal.invariant-loop-place
invariant-loop-place l = All (IsFree l.self l.session) (take l.place l.needs)
