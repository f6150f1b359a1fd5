use Rattle.std.proofs.Common.{◌<◌, length, drop}
use Rattle.xq_values.specs.Signs.{SignsGive}
use Rattle.xq_values.proofs.sign.signed.Given as goal

abbrev pub invariant-loop-left : goal.invariant-loop-left
invariant-loop-left l = (l.left < length l.signs) × SignsGive (drop l.left l.signs) l.value l.found

abbrev pub decreases-loop-left : goal.decreases-loop-left
decreases-loop-left l = l.left
