use Rattle.std.proofs.Common.{◌≡◌, ◌≤◌, ◌+◌, ◌∷◌, [], ◌++◌, length, rules, sym, subst}
use Rattle.std.specs.Vec.{vec_capacity}
use Rattle.session_core.specs.declared.history.event.Event.TheVariants as events
use Rattle.session_core.specs.declared.history.event.BeginKind.TheVariants as kinds
use Rattle.session_core.specs.declared.history.event.State.TheVariants as states
use Rattle.session_core.specs.History.States.{state}
use Rattle.session_core.specs.Keeping.Kept.{Kept, past, Follows}
use Rattle.session_core.specs.History.Transactions.{newest_number}
use Rattle.session_core.proofs.Cores.{core_began_read}
use Rattle.session_core.proofs.keeping.sessions.Core.begin_read.Goals as goal

pub invariant_of-self-2 : goal.invariant_of-self-2
invariant_of-self-2 c =
    let f = c.self.inside in
    let more : c.push_reserved.new.self.items ≡ f.journal.items ++ events.Began c.args.session (kinds.Reading c.self.inside.newest) ∷ [] = search rules in
    let room : length c.push_reserved.new.self.items + (f.opened + 1) ≤ vec_capacity c.push_reserved.new.self = search rules in
    core_began_read _ _ _ _ _ _ _ _ _ c.self.invariant c.args.session
    (subst (λ (k : Kept). state c.args.session (past k) ≡ states.Idle) (sym c.self.view_is) c.requires.idle)
    (subst (λ (k : Kept). Follows (events.Began c.args.session (kinds.Reading (newest_number k.base.numbers (past k)))) (past k))
    (sym c.self.view_is) c.requires.follows)
    _ _ _ more c.in_ok-set.ensures.ok room
