use Rattle.std.proofs.Common.{ap, sym, ◌∙◌, is_some}
use Rattle.std.specs.FinMap as map
use Rattle.page_bytes.proofs.Orders.{space_cmp-total}
use Rattle.page_bytes.proofs.Tables.{get-map_of}
use Rattle.page_bytes.proofs.table.SpaceSet.has.Goals as goal

pub returns : goal.returns
returns c = c.contains_key.ensures ∙ ap is_some (sym (get-map_of space_cmp-total c.self.inside.spaces c.args.space))
    ∙ ap (λ m. map.contains_key m c.args.space) c.self.view_is
