use Rattle.std.proofs.Common.{[], rules, ap, ◌∙◌}
use Rattle.std.specs.Prelude.{map}
use Rattle.std.proofs.lemmas.Fn.{always_returns_same}
use Rattle.xq_values.specs.Rows.{row_seen}
use Rattle.xq_values.proofs.Stable.{sort_is, placed_all}
use Rattle.xq_values.proofs.Keys.{rows_rank, before, all_placed_seen}
use Rattle.xq_values.proofs.row.sorted.Goals as goal

pub returns : goal.returns
returns c =
    let ds = c.args.descends.now in
    λ place. ap (map (row_seen place))
    (c.from_vec.ensures ∙ (sort_is (before ds) (rows_rank ds) c.into_vec-all.result.items c.sort_by.new.self.items
    (c.in_ok-sort_by.ensures.sorted (before ds) (rows_rank ds) (always_returns_same _ _ _ (λ a r f k. search rules)))
    (c.in_ok-sort_by.ensures.stable (before ds) (rows_rank ds) (always_returns_same _ _ _ (λ a r f k. search rules)))
    ∙ ap (λ xs. placed_all (before ds) xs []) c.into_vec-all.ensures))
    ∙ all_placed_seen place ds c.args.rows []
