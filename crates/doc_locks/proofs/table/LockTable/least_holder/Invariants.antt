use Rattle.std.proofs.Common.{◌≡◌, None, drop}
use Rattle.std.specs.Map.{keys_of}
use Rattle.doc_locks.proofs.Leasts.{least_in}
use Rattle.doc_locks.proofs.Grants.{blocked}
use Rattle.doc_locks.proofs.table.LockTable.least_holder.Given as goal

-- the sessions that are left decide, with the least one so far
abbrev pub invariant-loop-place : goal.invariant-loop-place
invariant-loop-place l =
    let es = l.self-inside.sessions.entries in let test = blocked es l.session l.need in
    least_in test (keys_of (drop l.place es)) l.least ≡ least_in test (keys_of es) None
