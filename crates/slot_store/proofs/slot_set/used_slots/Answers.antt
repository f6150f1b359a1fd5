use Rattle.std.proofs.Common.{◌≡◌, ◌++◌, sym, ap, ◌∙◌, rules}
use Rattle.std.specs.FinMap as map
use Rattle.slot_store.specs.Used.{with_slots, slots_of, slots_if, slots_of_chains}
use Rattle.slot_store.proofs.Giving.{with_slots-append}
use Rattle.slot_store.proofs.slot_set.used_slots.Goals as goal

pub returns : goal.returns
returns c =
    let one = slots_of c.args.state.now.table in let two = slots_if c.args.state.now.doubt in
    let three = slots_of_chains c.args.commit (map.entries c.args.versions.now.chains) in
    let first : c.add_rows.new.slots ≡ with_slots one map.empty = search rules in
    let second : c.add_doubted.new.slots ≡ with_slots two c.add_rows.new.slots = search rules in
    c.in_ok-add_versions.ensures ∙ ap (with_slots three) (second ∙ ap (with_slots two) first)
    ∙ sym (with_slots-append (one ++ two) three map.empty ∙ ap (with_slots three) (with_slots-append one two map.empty))
