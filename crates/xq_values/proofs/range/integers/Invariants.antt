use Rattle.std.proofs.Common.{◌≡◌, map}
use Rattle.std.specs.List.{range_with_len}
use Rattle.xml_model.specs.declared.nav.Id.{Id}
use Rattle.xml_model.specs.Nav.{Stored}
use Rattle.xq_values.specs.Seen.{item_seen}
use Rattle.xq_values.proofs.Ranges.{nth}
use Rattle.xq_values.proofs.range.integers.Given as goal

abbrev pub invariant-loop-k : goal.invariant-loop-k
invariant-loop-k l = (place : Id → Stored) → map (item_seen place) l.all ≡ map (nth l.low) (range_with_len 0 l.k)
