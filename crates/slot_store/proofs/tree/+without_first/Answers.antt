use Rattle.std.proofs.Common.{rules, ◌≡◌, ◌++◌, ◌∷◌, sym, ap, ◌∙◌}
use Rattle.slot_store.specs.Table.{rows_in, later_rows}
use Rattle.slot_store.proofs.Places.{later_front}
use Rattle.slot_store.proofs.tree.+without_first.Goals as goal

pub returns-in_ok-share-in-Node-left : goal.returns-in_ok-share-in-Node-left
returns-in_ok-share-in-Node-left t c =
    let b = c.deref-in-Node-left.result.now in
    let whole : rows_in c.args.tree.now ≡ rows_in b.left ++ b.row ∷ rows_in b.right = search rules in
    let m = c.in-Node-left.field-0.value in
    let left : rows_in b.left ≡ rows_in m.left ++ m.row ∷ rows_in m.right = search rules in
    let is : later_rows (rows_in c.args.tree.now) ≡ later_rows (rows_in b.left) ++ b.row ∷ rows_in b.right =
    ap later_rows (whole ∙ ap (λ l. l ++ b.row ∷ rows_in b.right) left) ∙ (later_front (rows_in m.left) m.row (rows_in m.right) (b.row ∷ rows_in b.right)
    ∙ ap (λ l. later_rows l ++ b.row ∷ rows_in b.right) (sym left)) in
    search rules
