use Rattle.std.proofs.Common.{rules, ◌≡◌, ◌++◌, ◌∷◌, ap, ◌∙◌}
use Rattle.slot_store.specs.Table.{rows_in}
use Rattle.slot_store.specs.Planned.{without_gone}
use Rattle.slot_store.proofs.Changing.{gone_parts}
use Rattle.slot_store.proofs.placing.+remove_gone.Goals as goal

pub returns : goal.returns
returns t c =
    let b = c.deref.result.now in
    let whole : rows_in c.args.rows.now ≡ rows_in b.left ++ b.row ∷ rows_in b.right = search rules in
    let is = ap (λ l. without_gone c.args.versions.now c.args.commit l c.args.table.now) whole
    ∙ gone_parts c.args.versions.now c.args.commit (rows_in b.left) b.row (rows_in b.right) c.args.table.now in
    search rules
