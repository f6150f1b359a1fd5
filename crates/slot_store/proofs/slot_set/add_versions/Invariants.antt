-- What is left to add decides.
use Rattle.std.proofs.Common.{◌≡◌}
use Rattle.slot_store.specs.Used.{with_slots, slots_of_chains}
use Rattle.slot_store.proofs.slot_set.add_versions.Given as goal

abbrev pub invariant-loop-chain : goal.invariant-loop-chain
invariant-loop-chain l =
    with_slots (slots_of_chains l.commit l.chain-iterator) l.slots ≡ with_slots (slots_of_chains l.commit l.initial.chain-iterator) l.fn.slots
