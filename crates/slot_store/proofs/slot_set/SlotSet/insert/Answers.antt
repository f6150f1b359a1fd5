use Rattle.std.proofs.Common.{ap, ◌∙◌}
use Rattle.std.specs.FinMap as map
use Rattle.std.specs.FinMap.{nat_cmp-IsAntisymmetric}
use Rattle.std.specs.Cmp.{nat_cmp_total}
use Rattle.page_bytes.proofs.Tables.{map_of-insert}
use Rattle.slot_store.proofs.slot_set.SlotSet.insert.Goals as goal
use Rattle.slot_store.proofs.slot_set.SlotSet.insert.Goals.{in-Ok, in-Err}

pub returns : goal.returns
returns c =
    elim c.match-insert.branch [
      | in-Ok w ↦
          rw w.result-is (map_of-insert nat_cmp_total nat_cmp-IsAntisymmetric c.self.inside.slots c.insert.new.self c.args.slot tt w.in-Ok.ensures.updates
          ∙ ap (λ m. map.insert m c.args.slot tt) c.self.view_is)
      | in-Err w ↦ rw w.result-is tt
    ]
