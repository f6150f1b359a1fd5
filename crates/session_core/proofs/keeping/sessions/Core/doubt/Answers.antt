use Rattle.std.proofs.Common.{◌≡◌, ◌≤◌, ◌+◌, ◌∷◌, [], ◌++◌, length, None, rules, sym, subst}
use Rattle.std.specs.Vec.{vec_capacity}
use Rattle.session_core.specs.declared.history.event.Event.TheVariants as events
use Rattle.session_core.specs.declared.history.event.State.TheVariants as states
use Rattle.session_core.specs.History.States.{state, in_doubt}
use Rattle.session_core.specs.History.Marks.{IsNextMark}
use Rattle.session_core.specs.Keeping.Kept.{Kept, past, Follows, forest_behind}
use Rattle.session_core.specs.History.Settling.{HasCommitLeft}
use Rattle.session_core.specs.History.Transactions.{next_number}
use Rattle.session_core.proofs.Cores.{core_doubted}
use Rattle.session_core.proofs.keeping.sessions.Core.doubt.Goals as goal

pub invariant_of-self-2 : goal.invariant_of-self-2
invariant_of-self-2 c =
    let f = c.self.inside in
    let more : c.push_reserved.new.self.items ≡ f.journal.items ++ events.Doubt c.args.session (f.newest + 1) c.args.mark ∷ [] = search rules in
    let room : length c.push_reserved.new.self.items + f.opened ≤ vec_capacity c.push_reserved.new.self = search rules in
    core_doubted _ _ _ _ _ _ _ _ _ c.self.invariant c.args.session c.args.forest c.args.mark c.is_forest.ensures
    (subst (λ (k : Kept). state c.args.session (past k) ≡ states.Updating) (sym c.self.view_is) c.requires.updating)
    (subst (λ (k : Kept). in_doubt (past k) ≡ None) (sym c.self.view_is) c.requires.settled)
    (subst (λ (k : Kept). HasCommitLeft k.base.numbers (past k)) (sym c.self.view_is) c.requires.left)
    (subst (λ (k : Kept). c.args.forest ≡ forest_behind k.base c.args.session (past k)) (sym c.self.view_is) c.requires.forest)
    (subst (λ (k : Kept). IsNextMark (past k) c.args.mark) (sym c.self.view_is) c.requires.mark)
    (subst (λ (k : Kept). Follows (events.Doubt c.args.session (next_number k.base.numbers (past k)) c.args.mark) (past k))
    (sym c.self.view_is) c.requires.follows)
    _ _ _ more c.in_ok-set.ensures.ok room
