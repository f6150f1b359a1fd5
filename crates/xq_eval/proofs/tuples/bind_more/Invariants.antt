use Rattle.std.proofs.Common.{◌≡◌, ◌++◌, drop}
use Rattle.xq_eval.proofs.tuples.bind_more.Given as goal

abbrev pub invariant-loop-variable : goal.invariant-loop-variable
invariant-loop-variable l = l.env ++ drop l.variable-index l.more ≡ l.fn.env ++ l.more
