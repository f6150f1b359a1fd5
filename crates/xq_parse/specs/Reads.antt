-- What a function of the parser answers, beside what its definition reads. Nothing is said where memory ran out.
use Rattle.std.specs.Prelude.{◌≡◌, Bool, true, false, List, Option, None, Some, Result, Ok, Err}
use Rattle.xq_ast.specs.declared.call.Call.{Call}
use Rattle.xq_ast.specs.declared.code.Code.{Code}
use Rattle.xq_ast.specs.declared.token.Token.{Token}
use Rattle.xq_parse.specs.declared.answer.ParseEnd.{ParseEnd}
use Rattle.xq_parse.specs.declared.answer.ParseEnd.TheVariants.{TooLong, XPST0003, NestedTooDeep, BadName, XPST0017, XPST0008, NoMemory}
use Rattle.xq_parse.specs.Answers.{code_of}

-- what was read is what the definition reads
abbrev pub Reads : {A B : Type 0} → (A → B) → Result A ParseEnd → Option B → Type 0
Reads view (Ok x) read = read ≡ Some (view x)
Reads view (Err XPST0003) read = read ≡ None
Reads view (Err NoMemory) read = Unit {0}
Reads view (Err TooLong) read = ⊥
Reads view (Err NestedTooDeep) read = ⊥
Reads view (Err BadName) read = ⊥
Reads view (Err XPST0017) read = ⊥
Reads view (Err XPST0008) read = ⊥

-- what was looked for stands at the front and was taken, or it does not and all is left
abbrev pub Takes : Bool → List Token → List Token → Option (List Token) → Type 0
Takes true before left behind = behind ≡ Some left
Takes false before left behind = (behind ≡ None) × (left ≡ before)

-- what was looked for stands at the front with its meaning and was taken, or it does not and all is left
abbrev pub Finds : {A : Type 0} → Option A → List Token → List Token → Option (A × List Token) → Type 0
Finds (Some x) before left read = read ≡ Some (x, left)
Finds None before left read = (read ≡ None) × (left ≡ before)

-- what was answered is what the text is
abbrev pub Gives : Result Call ParseEnd → Result Call Code → Type 0
Gives (Ok call) answer = answer ≡ Ok call
Gives (Err NoMemory) answer = Unit {0}
Gives (Err end) answer = answer ≡ Err (code_of end)
