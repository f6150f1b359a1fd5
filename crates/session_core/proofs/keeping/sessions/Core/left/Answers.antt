use Rattle.std.proofs.Common.{IsTrue, rules, sym, subst}
use Rattle.session_core.specs.declared.history.event.Event.TheVariants as events
use Rattle.session_core.specs.History.States.{state, is_open}
use Rattle.session_core.specs.Keeping.Kept.{Kept, past, Follows}
use Rattle.session_core.proofs.Cores.{open_counted, open_room, core_left}
use Rattle.session_core.proofs.keeping.sessions.Core.left.Goals as goal

pub overflow_sub-self : goal.overflow_sub-self
overflow_sub-self c = open_counted _ _ _ _ _ _ _ _ _ c.self.invariant c.args.session
    (subst (λ (k : Kept). IsTrue (is_open (state c.args.session (past k)))) (sym c.self.view_is) c.requires.inside)

pub push_reserved-requires : goal.push_reserved-requires
push_reserved-requires c =
    let room = open_room _ _ _ _ _ _ _ _ _ c.self.invariant c.args.session
    (subst (λ (k : Kept). IsTrue (is_open (state c.args.session (past k)))) (sym c.self.view_is) c.requires.inside) in search rules

pub invariant_of-self : goal.invariant_of-self
invariant_of-self c =
    core_left _ _ _ _ _ _ _ _ _ c.self.invariant c.args.session
    (subst (λ (k : Kept). IsTrue (is_open (state c.args.session (past k)))) (sym c.self.view_is) c.requires.inside)
    (subst (λ (k : Kept). Follows (events.Left c.args.session) (past k)) (sym c.self.view_is) c.requires.follows)
    _ _ _ _ c.push_reserved.ensures.items c.push_reserved.ensures.capacity c.remove.ensures c.release.ensures
