-- What an answer has to do with what is defined.
use Rattle.std.specs.Prelude.{◌≡◌, Result, Ok, Err}
use Rattle.xq_ast.specs.declared.code.Code.{Code}
use Rattle.tree_edit.specs.declared.end.EditEnd.{EditEnd}
use Rattle.tree_edit.specs.declared.end.EditEnd.TheVariants as ends

-- it is what is defined, and want of memory may come at any time
abbrev pub Gives : {A : Type 0} → Result A EditEnd → Result A Code → Type 0
Gives (Ok x) defined = defined ≡ Ok x
Gives (Err (ends.Code code)) defined = defined ≡ Err code
Gives (Err ends.NoMemory) defined = Unit {0}
