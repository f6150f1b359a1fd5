use Rattle.std.proofs.Common.{◌≡◌, ◌≤◌, ◌+◌, ◌∷◌, [], ◌++◌, length, rules, sym, subst}
use Rattle.std.specs.Vec.{vec_capacity}
use Rattle.session_core.specs.declared.history.event.Event.TheVariants as events
use Rattle.session_core.specs.History.Legal.{SoFar}
use Rattle.session_core.specs.Keeping.Kept.{Kept}
use Rattle.session_core.proofs.Cores.{core_answered}
use Rattle.session_core.proofs.keeping.sessions.Core.post.Goals as goal

pub invariant_of-self-2 : goal.invariant_of-self-2
invariant_of-self-2 c =
    let f = c.self.inside in
    let more : c.push_reserved.new.self.items ≡ f.journal.items ++ events.Answered c.args.session c.args.reply ∷ [] = search rules in
    let room : length c.push_reserved.new.self.items + f.opened ≤ vec_capacity c.push_reserved.new.self = search rules in
    core_answered _ _ _ _ _ _ _ _ _ c.self.invariant c.args.session c.args.reply
    (subst (λ (k : Kept). SoFar k.base (k.journal ++ events.Answered c.args.session c.args.reply ∷ [])) (sym c.self.view_is) c.requires.legal)
    _ _ more room
