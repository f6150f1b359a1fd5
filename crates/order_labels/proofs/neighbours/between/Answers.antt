use Rattle.std.proofs.Common.{arith}
use Rattle.order_labels.proofs.NeighbourLemmas.{length-code-zero}
use Rattle.order_labels.proofs.neighbours.between.Goals as goal

pub returns-in-None-None-clause-short : goal.returns-in-None-None-clause-short
returns-in-None-None-clause-short c =
    rw (c.whole.ensures.value, c.in-None-None.is-0, c.in-None-None.is-1) (omega (arith, length-code-zero))
