use Rattle.std.proofs.Common.{ap, ◌∙◌}
use Rattle.std.specs.FinMap as map
use Rattle.doc_locks.proofs.Entries.{map_of-remove}
use Rattle.session_core.proofs.keeping.states.StateTable.remove.Goals as goal

pub returns : goal.returns
returns c =
    map_of-remove c.self.inside.sessions c.shift_remove.new.self c.args.session c.shift_remove.ensures.updates
    ∙ ap (λ m. map.remove m c.args.session) c.self.view_is
