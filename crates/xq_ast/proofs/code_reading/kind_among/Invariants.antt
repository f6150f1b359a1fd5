use Rattle.std.proofs.Common.{drop}
use Rattle.xq_ast.specs.CodeText.{kind_name}
use Rattle.xq_ast.specs.CodeWords.{Misses}
use Rattle.xq_ast.proofs.code_reading.kind_among.Given as goal

abbrev pub invariant-loop-kind : goal.invariant-loop-kind
invariant-loop-kind l = Misses kind_name l.name (drop l.kind-index l.kinds) → Misses kind_name l.name l.fn.kinds
