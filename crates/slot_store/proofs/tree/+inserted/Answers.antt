use Rattle.std.proofs.Common.{rules, ◌≡◌, ◌++◌, ◌∷◌, ap, subst, ◌∙◌}
use Rattle.std.specs.declared.cmp.Ordering.TheVariants.{Less, Equal, Greater}
use Rattle.page_bytes.specs.Order.{page_cmp}
use Rattle.slot_store.specs.Table.{rows_in, Rise, with_row}
use Rattle.slot_store.proofs.Places.{rise_front, rise_end, insert_before, insert_there, insert_behind}
use Rattle.slot_store.proofs.tree.+inserted.Goals as goal

pub returns-in_ok-share-in-Less : goal.returns-in_ok-share-in-Less
returns-in_ok-share-in-Less t c rises =
    let b = c.deref-in-Less.result.now in
    let whole : rows_in c.args.tree.now ≡ rows_in b.left ++ b.row ∷ rows_in b.right = search rules in
    let less : page_cmp c.args.row.id b.row.id ≡ Less = search rules in
    let is : with_row c.args.row (rows_in c.args.tree.now) ≡ with_row c.args.row (rows_in b.left) ++ b.row ∷ rows_in b.right =
    ap (with_row c.args.row) whole ∙ insert_before c.args.row b.row (rows_in b.left) (rows_in b.right) less in
    let part = c.inserted.ensures (rise_front (rows_in b.left) (b.row ∷ rows_in b.right) (subst Rise whole rises)) in
    let made : rows_in c.in_ok-left-in-Less.left ≡ with_row c.args.row (rows_in b.left) = search rules in
    search rules

pub returns-in_ok-share-in-Equal-2 : goal.returns-in_ok-share-in-Equal-2
returns-in_ok-share-in-Equal-2 t c rises =
    let b = c.deref-in-Equal.result.now in
    let whole : rows_in c.args.tree.now ≡ rows_in b.left ++ b.row ∷ rows_in b.right = search rules in
    let same : page_cmp c.args.row.id b.row.id ≡ Equal = search rules in
    let is : with_row c.args.row (rows_in c.args.tree.now) ≡ rows_in b.left ++ c.args.row ∷ rows_in b.right =
    ap (with_row c.args.row) whole ∙ insert_there c.args.row b.row (rows_in b.left) (rows_in b.right) (subst Rise whole rises) same in
    search rules

pub returns-in_ok-share-in-Greater : goal.returns-in_ok-share-in-Greater
returns-in_ok-share-in-Greater t c rises =
    let b = c.deref-in-Greater.result.now in
    let whole : rows_in c.args.tree.now ≡ rows_in b.left ++ b.row ∷ rows_in b.right = search rules in
    let past : page_cmp c.args.row.id b.row.id ≡ Greater = search rules in
    let is : with_row c.args.row (rows_in c.args.tree.now) ≡ rows_in b.left ++ b.row ∷ with_row c.args.row (rows_in b.right) =
    ap (with_row c.args.row) whole ∙ insert_behind c.args.row b.row (rows_in b.left) (rows_in b.right) (subst Rise whole rises) past in
    let part = c.inserted-in-Greater.ensures ((rise_end (rows_in b.left) (b.row ∷ rows_in b.right) (subst Rise whole rises)).1) in
    let made : rows_in c.in_ok-right-in-Greater.right ≡ with_row c.args.row (rows_in b.right) = search rules in
    search rules
