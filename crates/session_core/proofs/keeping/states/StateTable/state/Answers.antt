use Rattle.std.proofs.Common.{sym, ap, ◌∙◌}
use Rattle.std.specs.FinMap as map
use Rattle.doc_locks.proofs.Entries.{get-map_of}
use Rattle.session_core.specs.Keeping.Table.{state_at}
use Rattle.session_core.proofs.keeping.states.StateTable.state.Goals as goal

pub returns-in-Some : goal.returns-in-Some
returns-in-Some c =
    ap state_at (c.in-Some.ensures.value ∙ sym (get-map_of c.self.inside.sessions.entries c.args.session) ∙ ap (λ m. map.get m c.args.session) c.self.view_is)

pub returns-in-None : goal.returns-in-None
returns-in-None c =
    ap state_at (c.in-None.ensures.value ∙ sym (get-map_of c.self.inside.sessions.entries c.args.session) ∙ ap (λ m. map.get m c.args.session) c.self.view_is)
