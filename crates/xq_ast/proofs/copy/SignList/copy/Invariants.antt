use Rattle.std.proofs.Common.{◌≡◌, take}
use Rattle.xq_ast.proofs.copy.SignList.copy.Given as goal

abbrev pub invariant-loop-sign : goal.invariant-loop-sign
invariant-loop-sign l = l.all ≡ take l.sign-index l.sign-items
