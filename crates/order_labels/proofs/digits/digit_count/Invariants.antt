use Rattle.std.proofs.Common.{◌≡◌, ◌-◌}
use Rattle.order_labels.specs.LabelOrder.{digit_count, digit_count_from}
use Rattle.order_labels.proofs.digits.digit_count.Given as goal

-- the count goes on from here
abbrev pub invariant-loop-count : goal.invariant-loop-count
invariant-loop-count l = digit_count_from (7 - l.count) l.count l.number ≡ digit_count l.number
