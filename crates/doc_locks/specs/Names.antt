-- The names that a session holds, each with its mode, and the table of all sessions.
use Rattle.std.specs.Prelude.{List, map, string_bytes}
use Rattle.std.specs.Coded.{Coded, coded_ℕ, coded_list}
use Rattle.std.specs.Ordering.{nat_cmp}
use Rattle.std.specs.Cmp.Lexicographic.{slice_cmp}
use Rattle.std.specs.FinMap as fin
use Rattle.std.specs.declared.string.String.{String}
use Rattle.xq_ast.specs.declared.need.LockMode.{LockMode}
use Rattle.xq_ast.specs.contracts.need.LockMode as the_mode

-- names, in byte order, with the modes in which they are held
abbrev pub Names : Type 0
Names = fin.FinMap (slice_cmp nat_cmp) LockMode

-- how names and their modes are written as one value: by their entries
abbrev pub names_code : Coded Names
names_code = fin.code (coded_list coded_ℕ) the_mode.the_row.coded

-- which session holds which name in which mode
abbrev pub Locks : Type 0
Locks = fin.FinMap nat_cmp Names

-- how the table of locks is written as one value: by its sessions and what each holds
abbrev pub locks_code : Coded Locks
locks_code = fin.code coded_ℕ names_code

-- the names that entries keep as texts
abbrev pub names_of_entries : {A : Type 0} → List (String A × LockMode) → Names
names_of_entries es = fin.from_entries (map (λ e. (string_bytes e.0, e.1)) es)
