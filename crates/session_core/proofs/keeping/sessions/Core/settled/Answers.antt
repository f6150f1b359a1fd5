use Rattle.std.proofs.Common.{◌≡◌, ℕ, List, ◌∷◌, [], ◌++◌, Some, IsSomeAnd, rules, sym, ap, subst}
use Rattle.session_core.specs.declared.history.event.Event.{Event}
use Rattle.session_core.specs.declared.history.event.Event.TheVariants as events
use Rattle.session_core.specs.History.Transactions.{Base}
use Rattle.session_core.specs.History.States.{state}
use Rattle.session_core.specs.History.Settling.{MaySettle}
use Rattle.session_core.specs.Keeping.Kept.{Kept, past, Follows, CanSettle}
use Rattle.std.specs.Prelude.{if◌then◌else◌}
use Rattle.xml_model.specs.Forest.{Forest, IsForest}
use Rattle.session_core.specs.History.Unsettled.{pair_of}
use Rattle.session_core.specs.Keeping.Ties.{DoubtIsForest, IsDoubt, DoubtIs}
use Rattle.session_core.specs.declared.keeping.sessions.Unsettled.{Unsettled}
use Rattle.session_core.proofs.Cores.{doubt_counted, doubt_room, core_settled}
use Rattle.session_core.proofs.keeping.sessions.Core.settled.Goals as goal

-- what is taken is the commit in doubt
taken : (B : Base) (before : List Event) (d : _) (u : Unsettled) → Some u ≡ d → DoubtIs B before (pair_of d) → IsDoubt B before u.session u.forest
taken B before d u is doubt = subst (λ o. DoubtIs B before (pair_of o)) (sym is) doubt

taken_valid : (d : _) (u : Unsettled) → Some u ≡ d → DoubtIsForest (pair_of d) → IsForest u.forest
taken_valid d u is valid = subst (λ o. DoubtIsForest (pair_of o)) (sym is) valid

may : (B : Base) (before : List Event) (by : ℕ) (stands : _) (s : ℕ) (F : Forest) → IsDoubt B before s F → CanSettle by stands before
    → MaySettle by s (state by before) × Follows (events.Settled by s stands) before
may B before by stands s F is can =
    subst (λ o. IsSomeAnd o (λ s. MaySettle by s (state by before) × Follows (events.Settled by s stands) before)) is.in_doubt_is can

pub overflow_sub-self : goal.overflow_sub-self
overflow_sub-self c = doubt_counted _ _ _ _ _ _ _ _ _ c.self.invariant c.in-Some.unsettled.session c.in-Some.unsettled.forest
    (taken _ _ _ c.in-Some.unsettled c.in-Some.ensures.value c.self.invariant.ties.doubt_is)

pub push_reserved-requires : goal.push_reserved-requires
push_reserved-requires c =
    let room = doubt_room _ _ _ _ _ _ _ _ _ c.self.invariant c.in-Some.unsettled.session c.in-Some.unsettled.forest
    (taken _ _ _ c.in-Some.unsettled c.in-Some.ensures.value c.self.invariant.ties.doubt_is) in search rules

pub invariant_of-self-2 : goal.invariant_of-self-2
invariant_of-self-2 c =
    let f = c.self.inside in let u = c.in-Some.unsettled in
    let is = taken _ _ _ u c.in-Some.ensures.value c.self.invariant.ties.doubt_is in
    let can = may _ _ c.args.by c.args.stands u.session u.forest is
    (subst (λ (k : Kept). CanSettle c.args.by c.args.stands (past k)) (sym c.self.view_is) c.requires.doubt) in
    let kept : c.keep_if-self-inside.new.forests.items ≡ (if c.args.stands then f.forests.items ++ u.forest ∷ [] else f.forests.items) = search rules in
    core_settled _ _ _ _ _ _ _ _ _ c.self.invariant c.args.by u.session c.args.stands u.forest
    (taken_valid _ u c.in-Some.ensures.value c.self.invariant.doubt_valid) is can.0 can.1
    _ _ _ _ _ _ _ c.push_reserved.ensures.items c.push_reserved.ensures.capacity c.remove.ensures c.release.ensures kept c.keep_if-self-inside.ensures.number
    (ap pair_of c.in-Some.ensures.after)
