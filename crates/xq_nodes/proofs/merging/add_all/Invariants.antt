use Rattle.std.proofs.Common.{◌≡◌, ◌++◌, drop}
use Rattle.xq_nodes.proofs.merging.add_all.Given as goal

abbrev pub invariant-loop-n : goal.invariant-loop-n
invariant-loop-n l = l.all ++ drop l.n-index l.more ≡ l.initial.all ++ l.more
