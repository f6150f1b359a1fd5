-- A reader of the code gives what reading gives, unless memory runs out.
use Rattle.std.specs.Prelude.{◌≡◌, ℕ, Result, Ok, Err}
use Rattle.redo_log.specs.declared.fault.ReadEnd.{ReadEnd}
use Rattle.redo_log.specs.declared.fault.ReadEnd.TheVariants.{Wrong, NoMemory}

-- a wrong field is named by as many bytes left as reading names, and memory may run out in any case
abbrev pub Fails : {B : Type 0} → ReadEnd → Result B ℕ → Type 0
Fails (Wrong left) read = read ≡ Err left
Fails NoMemory read = Unit {0}

-- a value is that of reading, seen as `view` says, and a failure is one of reading
abbrev pub Gives : {A B : Type 0} → (A → B) → Result A ReadEnd → Result B ℕ → Type 0
Gives view (Ok x) read = read ≡ Ok (view x)
Gives view (Err e) read = Fails e read
