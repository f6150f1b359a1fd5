use Rattle.std.proofs.Common.{◌≡◌, ◌++◌, ◌+◌, drop}
use Rattle.xq_eval.specs.Bound.{bound_of}
use Rattle.xq_eval.proofs.bound.of_items.Given as goal

abbrev pub invariant-loop-i : goal.invariant-loop-i
invariant-loop-i l = l.all ++ bound_of l.names.item l.names.at (l.i + 1) (drop l.i l.items) ≡ bound_of l.names.item l.names.at 1 l.items
