-- From what was read to what the relation says.
use Rattle.std.proofs.Common.{◌≡◌, ◌≢◌, refl, subst, Result, Ok, Err, IfOk, IfErr}
use Rattle.xq_ast.specs.declared.call.Call.{Call}
use Rattle.xq_ast.specs.declared.call.CallText.{CallText}
use Rattle.xq_ast.specs.declared.code.Code.{Code}
use Rattle.xq_ast.specs.Parsed.{Parsed}
use Rattle.xq_ast.specs.Readings.{parsed}
use Rattle.xq_parse.proofs.Readings.{parsed_holds}
use Rattle.xq_parse.specs.declared.answer.ParseEnd.{ParseEnd}
use Rattle.xq_parse.specs.declared.answer.ParseEnd.TheVariants.{TooLong, XPST0003, NestedTooDeep, BadName, XPST0017, XPST0008, NoMemory}
use Rattle.xq_parse.specs.Answers.{code_of}
use Rattle.xq_parse.specs.Reads.{Gives}

-- where the parser gives a call, the text is that call
pub is_found : (c : CallText) (r : Result Call ParseEnd) → Gives r (parsed c) → IfOk r (λ call. Parsed c (Ok call))
is_found c (Ok call) e = subst (Parsed c) e (parsed_holds c)
is_found c (Err end) e = tt

-- where the parser refuses a text, but for want of memory, the text is refused with this code
pub is_refused : (c : CallText) (r : Result Call ParseEnd) → Gives r (parsed c) → IfErr r (λ end. end ≢ NoMemory → Parsed c (Err (code_of end)))
is_refused c (Ok call) e = tt
is_refused c (Err TooLong) e = λ other. subst (Parsed c) e (parsed_holds c)
is_refused c (Err XPST0003) e = λ other. subst (Parsed c) e (parsed_holds c)
is_refused c (Err NestedTooDeep) e = λ other. subst (Parsed c) e (parsed_holds c)
is_refused c (Err BadName) e = λ other. subst (Parsed c) e (parsed_holds c)
is_refused c (Err XPST0017) e = λ other. subst (Parsed c) e (parsed_holds c)
is_refused c (Err XPST0008) e = λ other. subst (Parsed c) e (parsed_holds c)
is_refused c (Err NoMemory) e = λ other. absurd (other refl)

-- what a text is read as is what it is
pub is_parsed : (c : CallText) (answer : Result Call Code) → parsed c ≡ answer → Parsed c answer
is_parsed c answer e = subst (Parsed c) e (parsed_holds c)
