use Rattle.std.proofs.Common.{◌≡◌, ◌++◌, map, drop}
use Rattle.xq_eval.proofs.flwor.directions.Given as goal

abbrev pub invariant-loop-key : goal.invariant-loop-key
invariant-loop-key l = l.all ++ map (λ k. k.descending) (drop l.key-index l.keys) ≡ map (λ k. k.descending) l.keys
