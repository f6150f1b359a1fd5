use Rattle.std.proofs.Common.{drop}
use Rattle.xq_ast.specs.CodeText.{code_text}
use Rattle.xq_ast.specs.CodeWords.{Misses, AreWords}
use Rattle.xq_ast.proofs.code_reading.code_among.Given as goal

abbrev pub invariant-loop-code : goal.invariant-loop-code
invariant-loop-code l = (Misses code_text l.text (drop l.code-index l.codes) → Misses code_text l.text l.fn.codes) × AreWords (drop l.code-index l.codes)
