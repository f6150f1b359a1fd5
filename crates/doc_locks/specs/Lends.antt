-- What a table ends as, once the borrow of a session's names has ended.
use Rattle.std.specs.Prelude.{ℕ}
use Rattle.std.specs.Borrow.{Fml, MutBor, Lends}
use Rattle.std.specs.FinMap as fin
use Rattle.doc_locks.specs.Names.{Names, Locks}
use Rattle.doc_locks.specs.contracts.table.LockTable as table
use Rattle.doc_locks.specs.contracts.held.HeldNames as held

-- the session has the last names written
abbrev pub lends_names : MutBor Locks → ℕ → MutBor Names → Fml
lends_names t session r = Lends table.the_row held.the_row t r (fin.insert t.now session)
