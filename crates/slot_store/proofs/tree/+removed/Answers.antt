use Rattle.std.proofs.Common.{rules, ◌≡◌, ◌++◌, ◌∷◌, ap, subst, ◌∙◌}
use Rattle.std.specs.declared.cmp.Ordering.TheVariants.{Less, Equal, Greater}
use Rattle.page_bytes.specs.Order.{page_cmp}
use Rattle.slot_store.specs.Table.{rows_in, Rise, without_row}
use Rattle.slot_store.proofs.Places.{rise_front, rise_end, remove_before, remove_there, remove_behind}
use Rattle.slot_store.proofs.tree.+removed.Goals as goal

pub returns-in_ok-share-in-Less : goal.returns-in_ok-share-in-Less
returns-in_ok-share-in-Less t c rises =
    let b = c.deref-in-Less.result.now in
    let whole : rows_in c.args.tree.now ≡ rows_in b.left ++ b.row ∷ rows_in b.right = search rules in
    let less : page_cmp c.args.id b.row.id ≡ Less = search rules in
    let is : without_row c.args.id (rows_in c.args.tree.now) ≡ without_row c.args.id (rows_in b.left) ++ b.row ∷ rows_in b.right =
    ap (without_row c.args.id) whole ∙ remove_before c.args.id b.row (rows_in b.left) (rows_in b.right) less in
    let part = c.removed.ensures (rise_front (rows_in b.left) (b.row ∷ rows_in b.right) (subst Rise whole rises)) in
    let made : rows_in c.in_ok-left-in-Less.left ≡ without_row c.args.id (rows_in b.left) = search rules in
    search rules

pub returns-in-Equal : goal.returns-in-Equal
returns-in-Equal t c rises =
    let b = c.deref-in-Equal.result.now in
    let whole : rows_in c.args.tree.now ≡ rows_in b.left ++ b.row ∷ rows_in b.right = search rules in
    let same : page_cmp c.args.id b.row.id ≡ Equal = search rules in
    let is : without_row c.args.id (rows_in c.args.tree.now) ≡ rows_in b.left ++ rows_in b.right =
    ap (without_row c.args.id) whole ∙ remove_there c.args.id b.row (rows_in b.left) (rows_in b.right) (subst Rise whole rises) same in
    search rules

pub returns-in_ok-share-in-Greater : goal.returns-in_ok-share-in-Greater
returns-in_ok-share-in-Greater t c rises =
    let b = c.deref-in-Greater.result.now in
    let whole : rows_in c.args.tree.now ≡ rows_in b.left ++ b.row ∷ rows_in b.right = search rules in
    let past : page_cmp c.args.id b.row.id ≡ Greater = search rules in
    let is : without_row c.args.id (rows_in c.args.tree.now) ≡ rows_in b.left ++ b.row ∷ without_row c.args.id (rows_in b.right) =
    ap (without_row c.args.id) whole ∙ remove_behind c.args.id b.row (rows_in b.left) (rows_in b.right) (subst Rise whole rises) past in
    let part = c.removed-in-Greater.ensures ((rise_end (rows_in b.left) (b.row ∷ rows_in b.right) (subst Rise whole rises)).1) in
    let made : rows_in c.in_ok-right-in-Greater.right ≡ without_row c.args.id (rows_in b.right) = search rules in
    search rules
