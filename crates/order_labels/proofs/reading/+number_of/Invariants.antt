use Rattle.std.proofs.Common.{length}
use Rattle.order_labels.proofs.reading.+number_of.Given as goal

-- how many digits are left
abbrev pub decreases-number_of : goal.decreases-number_of
decreases-number_of l = length l.digits.now
