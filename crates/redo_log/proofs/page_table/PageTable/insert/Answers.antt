use Rattle.std.proofs.Common.{ap, ◌∙◌}
use Rattle.std.specs.FinMap as map
use Rattle.page_bytes.proofs.Orders.{page_cmp-total, page_cmp-exact}
use Rattle.page_bytes.proofs.Tables.{map_of-insert}
use Rattle.redo_log.proofs.page_table.PageTable.insert.Goals as goal
use Rattle.redo_log.proofs.page_table.PageTable.insert.Goals.{in-Ok, in-Err}

pub returns : goal.returns
returns c =
    elim c.match-insert.branch [
      | in-Ok w ↦
          rw w.result-is (map_of-insert page_cmp-total page_cmp-exact c.self.inside.pages c.insert.new.self c.args.id tt w.in-Ok.ensures.updates
          ∙ ap (λ m. map.insert m c.args.id tt) c.self.view_is)
      | in-Err w ↦ rw w.result-is tt
    ]
