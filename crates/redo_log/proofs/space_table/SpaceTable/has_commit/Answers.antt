use Rattle.std.proofs.Common.{sym, ap, ◌∙◌}
use Rattle.std.specs.Prelude.{◌==◌}
use Rattle.std.specs.List.{list_any}
use Rattle.std.specs.Map.{keys_of}
use Rattle.page_bytes.specs.Order.{space_cmp}
use Rattle.page_bytes.specs.Known.{Spaces}
use Rattle.page_bytes.specs.declared.ids.Space.{Space}
use Rattle.page_bytes.proofs.Orders.{space_cmp-total}
use Rattle.redo_log.specs.Store.{has_commit}
use Rattle.redo_log.proofs.SpaceKeys.{entries-from_entries}
use Rattle.redo_log.proofs.space_table.SpaceTable.has_commit.Goals as goal

pub returns : goal.returns
returns c =
    let entries = c.self.inside.spaces.entries in
    c.any_of_commit.ensures.found
    ∙ (ap (λ es. list_any (λ (s : Space). s.commit == c.args.commit) (keys_of es))
    (sym (entries-from_entries space_cmp space_cmp-total entries c.any_of_commit.ensures.ordered))
    ∙ ap (λ (m : Spaces). has_commit m c.args.commit) c.self.view_is)
