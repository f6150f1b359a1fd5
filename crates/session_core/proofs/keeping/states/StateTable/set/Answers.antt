use Rattle.std.proofs.Common.{Result, Ok, Err, OnErr, sym, ap, ◌∙◌}
use Rattle.std.specs.FinMap as map
use Rattle.doc_locks.proofs.Entries.{get-map_of, map_of-insert}
use Rattle.session_core.proofs.keeping.states.StateTable.set.Goals as goal

on_err : {T E P : Type 0} (r : Result T E) → P → OnErr r P
on_err (Ok x) p = tt
on_err (Err e) p = p

pub returns-in_err-insert-clause-absent : goal.returns-in_err-insert-clause-absent
returns-in_err-insert-clause-absent c =
    on_err c.from_residual.result (sym (ap (λ m. map.get m c.args.session) c.self.view_is) ∙ get-map_of c.self.inside.sessions.entries c.args.session
    ∙ c.in_err-insert.ensures.absent)

pub returns-clause-ok : goal.returns-clause-ok
returns-clause-ok c =
    map_of-insert c.self.inside.sessions c.insert.new.self c.args.session c.args.state c.in_ok-insert.ensures.updates
    ∙ ap (λ m. map.insert m c.args.session c.args.state) c.self.view_is
