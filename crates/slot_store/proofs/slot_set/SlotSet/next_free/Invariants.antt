-- No slot so far is free.
use Rattle.std.proofs.Common.{◌≡◌, ◌≤◌, ◌<◌, ◌-◌, ◌+◌, ℕ, true}
use Rattle.std.specs.FinMap as map
use Rattle.slot_store.specs.declared.planning.TheConstants.{LAST_SLOT}
use Rattle.slot_store.proofs.slot_set.SlotSet.next_free.Given as goal

abbrev pub invariant-loop-slot : goal.invariant-loop-slot
invariant-loop-slot l = record {
  from : l.from ≤ l.slot;
  used : (t : ℕ) → l.from ≤ t → t < l.slot → map.contains_key l.self t ≡ true;
}

abbrev pub decreases-loop-slot : goal.decreases-loop-slot
decreases-loop-slot l = LAST_SLOT + 1 - l.slot
