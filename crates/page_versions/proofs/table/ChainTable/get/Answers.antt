use Rattle.std.proofs.Common.{ap, sym, ◌∙◌}
use Rattle.std.specs.FinMap as map
use Rattle.page_bytes.proofs.Orders.{page_cmp-total}
use Rattle.page_bytes.proofs.Tables.{get-map_of}
use Rattle.page_versions.proofs.table.ChainTable.get.Goals as goal

pub returns : goal.returns
returns c =
    c.get.ensures.value ∙ sym (get-map_of page_cmp-total c.self.inside.chains c.args.id) ∙ ap (λ m. map.get m c.args.id) c.self.view_is
