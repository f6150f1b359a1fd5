use Rattle.std.proofs.Common.{arith, ap, length}
use Rattle.order_labels.proofs.NeighbourLemmas.{length-code-least}
use Rattle.order_labels.proofs.neighbours.least_with_fraction.Goals as goal

pub returns-clause-length : goal.returns-clause-length
returns-clause-length c =
    length-code-least c.from_parts.result c.from_parts.ensures.integer
    (omega (arith, ap length c.from_parts.ensures.fraction, c.in_ok-fraction.ensures.short))
