-- What a call that takes memory answers: the defined value or code, or that there was no memory.
use Rattle.std.specs.Prelude.{◌≡◌, Result, Ok, Err}
use Rattle.xq_ast.specs.declared.code.Code.{Code}
use Rattle.xq_values.specs.declared.end.ValueEnd.{ValueEnd}
use Rattle.xq_values.specs.declared.end.ValueEnd.TheVariants as ends

abbrev pub Gives : {A B : Type 0} → (A → B) → Result A ValueEnd → Result B Code → Type 0
Gives seen (Ok x) defined = defined ≡ Ok (seen x)
Gives seen (Err (ends.Code c)) defined = defined ≡ Err c
Gives seen (Err ends.NoMemory) defined = Unit {0}
