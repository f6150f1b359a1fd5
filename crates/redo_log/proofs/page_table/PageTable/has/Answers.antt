use Rattle.std.proofs.Common.{ap, sym, ◌∙◌, is_some}
use Rattle.std.specs.FinMap as map
use Rattle.page_bytes.proofs.Orders.{page_cmp-total}
use Rattle.page_bytes.proofs.Tables.{get-map_of}
use Rattle.redo_log.proofs.page_table.PageTable.has.Goals as goal

pub returns : goal.returns
returns c = c.contains_key.ensures ∙ ap is_some (sym (get-map_of page_cmp-total c.self.inside.pages c.args.id))
    ∙ ap (λ m. map.contains_key m c.args.id) c.self.view_is
