use Rattle.std.proofs.Common.{◌≡◌, ◌∷◌, [], ◌++◌, None, rules, sym, ap, subst}
use Rattle.session_core.specs.declared.history.event.Event.TheVariants as events
use Rattle.session_core.specs.declared.history.event.State.TheVariants as states
use Rattle.session_core.specs.History.States.{state, is_open, in_doubt}
use Rattle.session_core.specs.Keeping.Kept.{Kept, past, Follows, forest_behind}
use Rattle.session_core.specs.History.Settling.{HasCommitLeft}
use Rattle.session_core.specs.History.Transactions.{next_number}
use Rattle.session_core.proofs.Cores.{open_counted, open_room, core_committed}
use Rattle.session_core.proofs.keeping.sessions.Core.commit.Goals as goal

pub overflow_sub-self : goal.overflow_sub-self
overflow_sub-self c = open_counted _ _ _ _ _ _ _ _ _ c.self.invariant c.args.session
    (ap is_open (subst (λ (k : Kept). state c.args.session (past k) ≡ states.Updating) (sym c.self.view_is) c.requires.updating))

pub push_reserved-requires-2 : goal.push_reserved-requires-2
push_reserved-requires-2 c =
    let room = open_room _ _ _ _ _ _ _ _ _ c.self.invariant c.args.session
    (ap is_open (subst (λ (k : Kept). state c.args.session (past k) ≡ states.Updating) (sym c.self.view_is) c.requires.updating)) in search rules

pub invariant_of-self-2 : goal.invariant_of-self-2
invariant_of-self-2 c =
    let f = c.self.inside in
    let kept : c.push_reserved.new.self.items ≡ f.forests.items ++ c.args.forest ∷ [] = search rules in
    core_committed _ _ _ _ _ _ _ _ _ c.self.invariant c.args.session c.args.forest c.is_forest.ensures
    (subst (λ (k : Kept). state c.args.session (past k) ≡ states.Updating) (sym c.self.view_is) c.requires.updating)
    (subst (λ (k : Kept). in_doubt (past k) ≡ None) (sym c.self.view_is) c.requires.settled)
    (subst (λ (k : Kept). HasCommitLeft k.base.numbers (past k)) (sym c.self.view_is) c.requires.left)
    (subst (λ (k : Kept). c.args.forest ≡ forest_behind k.base c.args.session (past k)) (sym c.self.view_is) c.requires.forest)
    (subst (λ (k : Kept). Follows (events.Committed c.args.session (next_number k.base.numbers (past k))) (past k)) (sym c.self.view_is) c.requires.follows)
    _ _ _ _ _ c.push_reserved-2.ensures.items c.push_reserved-2.ensures.capacity c.remove.ensures c.release.ensures kept
