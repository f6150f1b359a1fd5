use Rattle.std.proofs.Common.{rules, ◌≡◌, None, sym, subst}
use Rattle.slot_store.specs.Table.{rows_in, Rise, without_row, slot_of}
use Rattle.slot_store.proofs.Places.{rise_without, none_cut}
use Rattle.slot_store.proofs.table.PageTable.remove.Goals as goal

pub invariant_of-self : goal.invariant_of-self
invariant_of-self c =
    let old = rows_in c.self.inside.tree in
    let part = c.removed.ensures c.self.invariant in
    let is : rows_in c.in_ok-self-inside.field-0 ≡ without_row c.args.id old = search rules in
    subst Rise (sym is) (rise_without c.args.id old c.self.invariant)

pub returns-else-is_some-clause-ok : goal.returns-else-is_some-clause-ok
returns-else-is_some-clause-ok c =
    let none : slot_of c.args.id c.args.self.now ≡ None = search rules in
    sym (none_cut c.args.id c.args.self.now none)
