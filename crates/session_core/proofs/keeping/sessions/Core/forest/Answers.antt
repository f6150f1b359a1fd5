use Rattle.std.proofs.Common.{◌≡◌, [], sym, subst, ◌∙◌}
use Rattle.session_core.specs.History.{past_of}
use Rattle.session_core.specs.History.States.{state}
use Rattle.session_core.specs.Keeping.Kept.{Kept, past, kept_of, forest_in}
use Rattle.session_core.proofs.Adding.{some_forest, state_told, forest_read, forest_newest}
use Rattle.session_core.proofs.keeping.sessions.Core.forest.Goals as goal

pub forest_at-requires : goal.forest_at-requires
forest_at-requires c = let f = c.self.inside in
    some_forest (kept_of f.base_commit f.base_generation f.base_forest.value []).base
    (past_of f.journal.items) f.forests.items c.self.invariant.ties.forests_are

pub forest_at-requires-in_default : goal.forest_at-requires-in_default
forest_at-requires-in_default c = let f = c.self.inside in
    some_forest (kept_of f.base_commit f.base_generation f.base_forest.value []).base
    (past_of f.journal.items) f.forests.items c.self.invariant.ties.forests_are

pub returns-in-Reading : goal.returns-in-Reading
returns-in-Reading c =
    let f = c.self.inside in let before = past_of f.journal.items in let told =
    state_told before f.states c.args.session (c.self.invariant.ties.states_are c.args.session) in
    subst (λ (k : Kept). c.forest_at.result.now ≡ forest_in k.base (past k) (state c.args.session (past k))) c.self.view_is
    (forest_read (kept_of f.base_commit f.base_generation f.base_forest.value []).base before f.forests.items c.args.session c.in-Reading.number
    c.saturating_sub.result c.forest_at.result.now
    c.self.invariant.ties.forests_are c.forest_at.ensures c.saturating_sub.ensures (sym told ∙ sym c.in-Reading.ensures))

pub returns-in_default : goal.returns-in_default
returns-in_default c =
    let f = c.self.inside in let before = past_of f.journal.items in let told =
    state_told before f.states c.args.session (c.self.invariant.ties.states_are c.args.session) in
    subst (λ (k : Kept). c.forest_at-in_default.result.now ≡ forest_in k.base (past k) (state c.args.session (past k))) c.self.view_is
    (forest_newest (kept_of f.base_commit f.base_generation f.base_forest.value []).base before f.forests.items
    (state c.args.session before) f.newest c.forest_at-in_default.result.now
    c.self.invariant.ties.forests_are c.forest_at-in_default.ensures c.self.invariant.number_is
    (λ n is. c.in_default.not-Reading n (c.state.ensures ∙ told ∙ is)))
