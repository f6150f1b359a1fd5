use Rattle.std.proofs.Common.{ap, ◌∙◌}
use Rattle.std.specs.FinMap as map
use Rattle.page_bytes.proofs.Orders.{space_cmp-total, space_cmp-exact}
use Rattle.page_bytes.proofs.Tables.{map_of-remove}
use Rattle.redo_log.proofs.space_table.SpaceTable.remove.Goals as goal

pub returns : goal.returns
returns c =
    map_of-remove space_cmp-total space_cmp-exact c.self.inside.spaces c.remove.new.self c.args.space c.remove.ensures.updates
    ∙ ap (λ m. map.remove m c.args.space) c.self.view_is
