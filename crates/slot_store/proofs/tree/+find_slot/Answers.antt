use Rattle.std.proofs.Common.{rules, ◌≡◌, ◌++◌, ◌∷◌, ap, subst, ◌∙◌}
use Rattle.std.specs.declared.cmp.Ordering.TheVariants.{Less, Equal, Greater}
use Rattle.page_bytes.specs.Order.{page_cmp}
use Rattle.slot_store.specs.Table.{rows_in, Rise, slot_of}
use Rattle.slot_store.proofs.Places.{rise_front, rise_end, slot_before, slot_there, slot_behind}
use Rattle.slot_store.proofs.tree.+find_slot.Goals as goal

pub returns-in-Less : goal.returns-in-Less
returns-in-Less t c rises =
    let b = c.deref-in-Less.result.now in
    let whole : rows_in c.args.tree.now ≡ rows_in b.left ++ b.row ∷ rows_in b.right = search rules in
    let order : page_cmp c.args.id b.row.id ≡ Less = search rules in
    let is = ap (slot_of c.args.id) whole ∙ slot_before c.args.id b.row (rows_in b.left) (rows_in b.right) (subst Rise whole rises) order in
    let part = c.find_slot.ensures (rise_front (rows_in b.left) (b.row ∷ rows_in b.right) (subst Rise whole rises)) in
    search rules

pub returns-in-Equal : goal.returns-in-Equal
returns-in-Equal t c rises =
    let b = c.deref-in-Equal.result.now in
    let whole : rows_in c.args.tree.now ≡ rows_in b.left ++ b.row ∷ rows_in b.right = search rules in
    let order : page_cmp c.args.id b.row.id ≡ Equal = search rules in
    let is = ap (slot_of c.args.id) whole ∙ slot_there c.args.id b.row (rows_in b.left) (rows_in b.right) (subst Rise whole rises) order in
    search rules

pub returns-in-Greater : goal.returns-in-Greater
returns-in-Greater t c rises =
    let b = c.deref-in-Greater.result.now in
    let whole : rows_in c.args.tree.now ≡ rows_in b.left ++ b.row ∷ rows_in b.right = search rules in
    let order : page_cmp c.args.id b.row.id ≡ Greater = search rules in
    let is = ap (slot_of c.args.id) whole ∙ slot_behind c.args.id b.row (rows_in b.left) (rows_in b.right) (subst Rise whole rises) order in
    let part = c.find_slot-in-Greater.ensures (rise_end (rows_in b.left) (b.row ∷ rows_in b.right) (subst Rise whole rises)).1 in
    search rules
