-- What calls of evaluation over a `Nav` answer. Where its documents are honest the answer is the defined value or code;
-- else, and then too, it may be a fault that passes its test, or want of memory.
use Rattle.std.specs.Prelude.{◌≡◌, Result, Ok, Err}
use Rattle.xq_ast.specs.declared.code.Code.{Code}
use Rattle.xml_model.specs.Items.{Made}
use Rattle.xq_nodes.specs.declared.end.EvalEnd.{EvalEnd}
use Rattle.xq_nodes.specs.declared.end.EvalEnd.TheVariants as ends

-- how a call ends that meets no code: by a fault that passes the test, or for want of memory
abbrev pub IsFault : {F : Type 0} → (F → Type 0) → EvalEnd F → Type 0
IsFault passes (ends.Code code) = ⊥
IsFault passes (ends.Nav fault) = passes fault
IsFault passes ends.NoMemory = Unit {0}

-- what only looks at trees answers; `seen` says how the definition sees the answer
abbrev pub Looks : {A B F : Type 0} → Type 0 → (F → Type 0) → (A → B) → Result A (EvalEnd F) → Result B Code → Type 0
Looks honest passes seen (Ok x) defined = honest → defined ≡ Ok (seen x)
Looks honest passes seen (Err (ends.Code code)) defined = honest → defined ≡ Err code
Looks honest passes seen (Err (ends.Nav fault)) defined = passes fault
Looks honest passes seen (Err ends.NoMemory) defined = Unit {0}

-- what may make trees answers, with the trees that are there after it
abbrev pub Leaves : {A B F : Type 0} → Type 0 → (F → Type 0) → (A → B) → Result A (EvalEnd F) → Made → Result (B × Made) Code → Type 0
Leaves honest passes seen (Ok x) after defined = honest → defined ≡ Ok (seen x, after)
Leaves honest passes seen (Err (ends.Code code)) after defined = honest → defined ≡ Err code
Leaves honest passes seen (Err (ends.Nav fault)) after defined = passes fault
Leaves honest passes seen (Err ends.NoMemory) after defined = Unit {0}
