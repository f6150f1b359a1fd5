use Rattle.std.proofs.Common.{rules, ◌≡◌, sym, subst}
use Rattle.slot_store.specs.Table.{rows_in, Rise, with_row}
use Rattle.slot_store.proofs.Places.{rise_with}
use Rattle.slot_store.proofs.table.PageTable.insert.Goals as goal

pub invariant_of-self : goal.invariant_of-self
invariant_of-self c =
    let old = rows_in c.self.inside.tree in
    let part = c.inserted.ensures c.self.invariant in
    let is : rows_in c.in_ok-self-inside.field-0 ≡ with_row c.args.row old = search rules in
    subst Rise (sym is) (rise_with c.args.row old c.self.invariant)
