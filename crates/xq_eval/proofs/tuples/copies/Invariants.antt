use Rattle.std.proofs.Common.{◌≡◌, take}
use Rattle.xq_eval.proofs.tuples.copies.Given as goal

abbrev pub invariant-loop-variable : goal.invariant-loop-variable
invariant-loop-variable l = l.all ≡ take l.variable-index l.variables
