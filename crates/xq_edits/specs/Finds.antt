-- What calls answer whose answer stands for a defined one by a relation.
use Rattle.std.specs.Prelude.{◌≡◌, Result, Ok, Err}
use Rattle.xq_ast.specs.declared.code.Code.{Code}
use Rattle.xq_nodes.specs.declared.end.EvalEnd.{EvalEnd}
use Rattle.xq_nodes.specs.declared.end.EvalEnd.TheVariants as ends

-- the defined answer is a value, for which this one stands
pub record Found {A B : Type 0} (stands : A → B → Type 0) (x : A) (defined : Result B Code) : Type 0 where
  pub value : B
  pub is : defined ≡ Ok value
  pub stands_for : stands x value

-- Where the documents are honest the answer stands for the defined value, or is the defined code; else, and then too, it
-- may be a fault that passes its test, or want of memory.
abbrev pub Finds : {A B F : Type 0} → Type 0 → (F → Type 0) → (A → B → Type 0) → Result A (EvalEnd F) → Result B Code → Type 0
Finds honest passes stands (Ok x) defined = honest → Found stands x defined
Finds honest passes stands (Err (ends.Code code)) defined = honest → defined ≡ Err code
Finds honest passes stands (Err (ends.Nav fault)) defined = passes fault
Finds honest passes stands (Err ends.NoMemory) defined = Unit {0}
