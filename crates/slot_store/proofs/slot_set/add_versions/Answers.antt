use Rattle.std.proofs.Common.{sym, ap, ◌∙◌}
use Rattle.std.specs.List.{flat_map}
use Rattle.slot_store.specs.Used.{with_slots, slots_of_chains, slot_of_version}
use Rattle.slot_store.proofs.Giving.{with_slots-append}
use Rattle.slot_store.proofs.slot_set.add_versions.Goals as goal

pub loop-chain-preserved : goal.loop-chain-preserved
loop-chain-preserved c =
    let commit = c.args.commit in let rest = c.next.new.self in
    ap (with_slots (slots_of_chains commit rest)) c.in_ok-add_chain.ensures
    ∙ sym (with_slots-append (flat_map (slot_of_version commit) c.in-Some.chain.now) (slots_of_chains commit rest) c.loop-chain.slots)
    ∙ ap (λ l. with_slots (slots_of_chains commit l) c.loop-chain.slots) (sym c.in-Some.ensures.steps) ∙ c.loop-chain.invariant
