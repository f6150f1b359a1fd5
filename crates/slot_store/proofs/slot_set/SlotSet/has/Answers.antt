use Rattle.std.proofs.Common.{ap, sym, ◌∙◌, is_some}
use Rattle.std.specs.FinMap as map
use Rattle.std.specs.Cmp.{nat_cmp_total}
use Rattle.page_bytes.proofs.Tables.{get-map_of}
use Rattle.slot_store.proofs.slot_set.SlotSet.has.Goals as goal

pub returns : goal.returns
returns c = c.contains_key.ensures ∙ ap is_some (sym (get-map_of nat_cmp_total c.self.inside.slots c.args.slot))
    ∙ ap (λ m. map.contains_key m c.args.slot) c.self.view_is
