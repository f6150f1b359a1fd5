use Rattle.std.proofs.Common.{◌≡◌, take}
use Rattle.xq_eval.proofs.found.copied.Given as goal

abbrev pub invariant-loop-item : goal.invariant-loop-item
invariant-loop-item l = l.all ≡ take l.item-index l.items
