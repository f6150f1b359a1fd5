-- What the lines of a reply are, or its code.
use Rattle.std.specs.Prelude.{◌≡◌, List, Result, Ok, Err}
use Rattle.xml_model.specs.Pyx.{Line}
use Rattle.xml_model.specs.Statement.{Answer, lines, error}
use Rattle.xq_nodes.specs.declared.end.EvalEnd.{EvalEnd}
use Rattle.xq_nodes.specs.declared.end.EvalEnd.TheVariants as ends

-- Where the documents are honest the lines or the code of the answer; else a fault that passes its test, or want of
-- memory.
abbrev pub Says : {F : Type 0} → Type 0 → (F → Type 0) → Result (List Line) (EvalEnd F) → Answer → Type 0
Says honest passes (Ok said) answer = honest → answer ≡ lines said
Says honest passes (Err (ends.Code c)) answer = honest → answer ≡ error c
Says honest passes (Err (ends.Nav fault)) answer = passes fault
Says honest passes (Err ends.NoMemory) answer = Unit {0}
