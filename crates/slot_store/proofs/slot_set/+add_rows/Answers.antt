use Rattle.std.proofs.Common.{rules, ◌≡◌, ◌++◌, ◌∷◌, ap, ◌∙◌}
use Rattle.slot_store.specs.Table.{rows_in}
use Rattle.slot_store.specs.Used.{with_slots, slots_of}
use Rattle.slot_store.proofs.Giving.{slots_parts}
use Rattle.slot_store.proofs.slot_set.+add_rows.Goals as goal

pub returns : goal.returns
returns t c =
    let b = c.deref.result.now in
    let whole : rows_in c.args.tree.now ≡ rows_in b.left ++ b.row ∷ rows_in b.right = search rules in
    let is = ap (λ l. with_slots (slots_of l) c.args.slots.now) whole ∙ slots_parts (rows_in b.left) b.row (rows_in b.right) c.args.slots.now in
    search rules
