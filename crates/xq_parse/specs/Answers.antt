-- Why a text is refused, as the code of an answer.
use Rattle.xq_ast.specs.declared.code.Code.{Code}
use Rattle.xq_ast.specs.declared.code.Code.TheVariants as codes
use Rattle.xq_parse.specs.declared.answer.ParseEnd.{ParseEnd}
use Rattle.xq_parse.specs.declared.answer.ParseEnd.TheVariants.{TooLong, XPST0003, NestedTooDeep, BadName, XPST0017, XPST0008, NoMemory}

-- the code of each refusal
abbrev pub code_of : ParseEnd → Code
code_of TooLong = codes.TooLong
code_of XPST0003 = codes.XPST0003
code_of NestedTooDeep = codes.NestedTooDeep
code_of BadName = codes.BadName
code_of XPST0017 = codes.XPST0017
code_of XPST0008 = codes.XPST0008
code_of NoMemory = codes.NoMemory
