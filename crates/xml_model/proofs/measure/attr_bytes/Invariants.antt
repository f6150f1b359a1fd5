use Rattle.std.proofs.Common.{◌≡◌, ◌<◌, min, ◌+◌, ◌-◌, ◌^◌, drop}
use Rattle.xml_model.specs.Trees.{value_bytes}
use Rattle.xml_model.proofs.measure.attr_bytes.Given as goal

abbrev pub invariant-loop-attr : goal.invariant-loop-attr
invariant-loop-attr l = (l.all < 2 ^ 64)
    × (min (l.all + value_bytes (drop l.attr-index l.attr-items)) (2 ^ 64 - 1) ≡ min (value_bytes l.attr-items) (2 ^ 64 - 1))
