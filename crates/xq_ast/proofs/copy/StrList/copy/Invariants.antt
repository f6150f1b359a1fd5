use Rattle.std.proofs.Common.{◌≡◌, take}
use Rattle.xq_ast.proofs.copy.StrList.copy.Given as goal

abbrev pub invariant-loop-text : goal.invariant-loop-text
invariant-loop-text l = l.all ≡ take l.text-index l.text-items
