use Rattle.std.proofs.Common.{drop}
use Rattle.xq_ast.specs.CodeText.{refusal_name}
use Rattle.xq_ast.specs.CodeWords.{Misses}
use Rattle.xq_ast.proofs.code_reading.refusal_among.Given as goal

abbrev pub invariant-loop-why : goal.invariant-loop-why
invariant-loop-why l = Misses refusal_name l.name (drop l.why-index l.refusals) → Misses refusal_name l.name l.fn.refusals
