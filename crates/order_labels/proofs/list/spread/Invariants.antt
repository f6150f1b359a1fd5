use Rattle.std.proofs.Common.{◌≡◌}
use Rattle.order_labels.specs.Insertions.{first_keys}
use Rattle.order_labels.proofs.list.spread.Given as goal

-- the keys so far are the first ones
abbrev pub invariant-loop-integer : goal.invariant-loop-integer
invariant-loop-integer l = l.keys.items ≡ first_keys l.integer
