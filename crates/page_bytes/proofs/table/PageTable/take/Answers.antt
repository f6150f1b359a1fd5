use Rattle.std.proofs.Common.{ap, sym, ◌∙◌}
use Rattle.std.specs.FinMap as map
use Rattle.page_bytes.proofs.Orders.{page_cmp-total, page_cmp-exact}
use Rattle.page_bytes.proofs.Tables.{get-map_of, map_of-remove}
use Rattle.page_bytes.proofs.table.PageTable.take.Goals as goal

pub returns : goal.returns
returns g c =
    let tree = c.self.inside.entries in record {
      value = c.remove.ensures.value ∙ sym (get-map_of page_cmp-total tree c.args.id) ∙ ap (λ m. map.get m c.args.id) c.self.view_is;
      removed = map_of-remove page_cmp-total page_cmp-exact tree c.remove.new.self c.args.id c.remove.ensures.updates
          ∙ ap (λ m. map.remove m c.args.id) c.self.view_is;
    }
