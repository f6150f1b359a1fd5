-- What is left to add decides.
use Rattle.std.proofs.Common.{◌≡◌, drop}
use Rattle.std.specs.List.{flat_map}
use Rattle.slot_store.specs.Used.{with_slots, slot_of_version}
use Rattle.slot_store.proofs.slot_set.add_chain.Given as goal

abbrev pub invariant-loop-version : goal.invariant-loop-version
invariant-loop-version l =
    with_slots (flat_map (slot_of_version l.commit) (drop l.version-index l.version-items)) l.slots
    ≡ with_slots (flat_map (slot_of_version l.commit) l.version-items) l.fn.slots
