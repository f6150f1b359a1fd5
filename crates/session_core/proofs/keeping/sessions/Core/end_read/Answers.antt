use Rattle.std.proofs.Common.{IsTrue, rules, sym, subst}
use Rattle.session_core.specs.declared.history.event.Event.TheVariants as events
use Rattle.session_core.specs.History.States.{state, is_reading}
use Rattle.session_core.specs.Keeping.Kept.{Kept, past, Follows}
use Rattle.session_core.proofs.Adding.{open_of_reading}
use Rattle.session_core.proofs.Cores.{open_counted, open_room, core_ended}
use Rattle.session_core.proofs.keeping.sessions.Core.end_read.Goals as goal

pub overflow_sub-self : goal.overflow_sub-self
overflow_sub-self c = open_counted _ _ _ _ _ _ _ _ _ c.self.invariant c.args.session
    (open_of_reading _ (subst (λ (k : Kept). IsTrue (is_reading (state c.args.session (past k)))) (sym c.self.view_is) c.requires.reading))

pub push_reserved-requires : goal.push_reserved-requires
push_reserved-requires c =
    let room = open_room _ _ _ _ _ _ _ _ _ c.self.invariant c.args.session
    (open_of_reading _ (subst (λ (k : Kept). IsTrue (is_reading (state c.args.session (past k)))) (sym c.self.view_is) c.requires.reading)) in search rules

pub invariant_of-self : goal.invariant_of-self
invariant_of-self c =
    core_ended _ _ _ _ _ _ _ _ _ c.self.invariant c.args.session
    (subst (λ (k : Kept). IsTrue (is_reading (state c.args.session (past k)))) (sym c.self.view_is) c.requires.reading)
    (subst (λ (k : Kept). Follows (events.Ended c.args.session) (past k)) (sym c.self.view_is) c.requires.follows)
    _ _ _ _ c.push_reserved.ensures.items c.push_reserved.ensures.capacity c.remove.ensures c.release.ensures
