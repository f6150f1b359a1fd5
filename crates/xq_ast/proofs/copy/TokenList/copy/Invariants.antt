use Rattle.std.proofs.Common.{◌≡◌, take}
use Rattle.xq_ast.proofs.copy.TokenList.copy.Given as goal

abbrev pub invariant-loop-token : goal.invariant-loop-token
invariant-loop-token l = l.all ≡ take l.token-index l.token-items
