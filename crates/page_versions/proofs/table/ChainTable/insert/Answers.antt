use Rattle.std.proofs.Common.{ap, ◌∙◌}
use Rattle.std.specs.FinMap as map
use Rattle.page_bytes.proofs.Orders.{page_cmp-total, page_cmp-exact}
use Rattle.page_bytes.proofs.Tables.{map_of-insert}
use Rattle.page_versions.proofs.table.ChainTable.insert.Goals as goal

pub returns-in-Ok-clause-ok : goal.returns-in-Ok-clause-ok
returns-in-Ok-clause-ok c =
    map_of-insert page_cmp-total page_cmp-exact c.self.inside.chains c.insert.new.self c.args.id c.args.chain c.in-Ok.ensures.updates
    ∙ ap (λ m. map.insert m c.args.id c.args.chain) c.self.view_is
