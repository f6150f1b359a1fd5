use Rattle.std.proofs.Common.{ap, ◌∙◌}
use Rattle.std.specs.FinMap as map
use Rattle.page_bytes.proofs.Orders.{space_cmp-total, space_cmp-exact}
use Rattle.page_bytes.proofs.Tables.{map_of-insert}
use Rattle.redo_log.proofs.space_table.SpaceTable.insert.Goals as goal
use Rattle.redo_log.proofs.space_table.SpaceTable.insert.Goals.{in-Ok, in-Err}

pub returns : goal.returns
returns c =
    elim c.match-insert.branch [
      | in-Ok w ↦
          rw w.result-is (map_of-insert space_cmp-total space_cmp-exact c.self.inside.spaces c.insert.new.self c.args.space tt w.in-Ok.ensures.updates
          ∙ ap (λ m. map.insert m c.args.space tt) c.self.view_is)
      | in-Err w ↦ rw w.result-is tt
    ]
