use Rattle.xq_values.proofs.Sums.{summed_is}
use Rattle.xq_values.proofs.sum.sum_of.Goals as goal

pub loop-atom-init : goal.loop-atom-init
loop-atom-init c = summed_is c.args.atoms.now
