use Rattle.std.proofs.Common.{◌≡◌, take}
use Rattle.xq_ast.proofs.copy.NeedList.copy.Given as goal

abbrev pub invariant-loop-need : goal.invariant-loop-need
invariant-loop-need l = l.all ≡ take l.need-index l.need-items
