use Rattle.std.proofs.Common.{◌≡◌, ◌≤◌, ◌+◌, List, ◌∷◌, [], ◌++◌, length, rules, sym, ap, subst, ◌∙◌}
use Rattle.std.specs.Vec.{vec_capacity}
use Rattle.session_core.specs.declared.history.event.Event.{Event}
use Rattle.session_core.specs.declared.history.event.Event.TheVariants as events
use Rattle.session_core.specs.declared.history.event.State.TheVariants as states
use Rattle.session_core.specs.History.{past_of}
use Rattle.session_core.specs.History.States.{state}
use Rattle.session_core.specs.Keeping.Kept.{Kept, past, kept_of, Follows}
use Rattle.doc_locks.specs.Refusal.{IsRefusal}
use Rattle.session_core.specs.Keeping.Kept.{with_event}
use Rattle.session_core.specs.History.Locks.{AllFree, IsRefused}
use Rattle.session_core.proofs.Adding.{refused_follows}
use Rattle.session_core.proofs.Asking.{all_free, refused, is_granted}
use Rattle.session_core.proofs.Cores.{core_granted, core_refused}
use Rattle.session_core.proofs.keeping.sessions.Core.ask.Goals as goal

pub invariant_of-self-in-Ok : goal.invariant_of-self-in-Ok
invariant_of-self-in-Ok c =
    let f = c.self.inside in
    let more : c.push_reserved.new.self.items ≡ f.journal.items ++ events.Granted c.args.session c.args.needs.now ∷ [] =
    c.push_reserved.ensures.items ∙ ap (λ (l : List Event). l ++ events.Granted c.args.session c.in_ok-asked.asked ∷ []) c.reserve.ensures.items
    ∙ (λ i. f.journal.items ++ events.Granted c.args.session (c.in_ok-asked.ensures i) ∷ []) in
    let room : length c.push_reserved.new.self.items + f.opened ≤ vec_capacity c.push_reserved.new.self = search rules in
    core_granted _ _ _ _ _ _ _ _ _ c.self.invariant c.args.session c.args.needs.now
    (is_granted (past_of f.journal.items) f.locks c.self.invariant.ties.locks_are c.args.session c.args.needs.now
    (subst (λ (k : Kept). state c.args.session (past k) ≡ states.Updating) (sym c.self.view_is) c.requires.updating) c.requires.some c.requires.of_call.0
    c.requires.of_call.1 c.in-Ok.ensures.free)
    (subst (λ (k : Kept). Follows (events.Granted c.args.session c.args.needs.now) (past k)) (sym c.self.view_is) c.requires.follows)
    _ _ _ more c.in-Ok.ensures.granted room

pub invariant_of-self-in-Err-Held : goal.invariant_of-self-in-Err-Held
invariant_of-self-in-Err-Held c =
    let f = c.self.inside in
    let more : c.push_reserved-in-Err-Held.new.self.items
    ≡ f.journal.items ++ events.Refused c.args.session c.in-Err-Held.name c.in-Err-Held.holder c.args.needs.now ∷ [] =
    c.push_reserved-in-Err-Held.ensures.items
    ∙ ap (λ (l : List Event). l ++ events.Refused c.args.session c.in-Ok-copy.copy c.in-Err-Held.holder c.in_ok-asked.asked ∷ []) c.reserve.ensures.items
    ∙ (λ i. f.journal.items ++ events.Refused c.args.session (c.in-Ok-copy.ensures i) c.in-Err-Held.holder (c.in_ok-asked.ensures i) ∷ []) in
    let room : length c.push_reserved-in-Err-Held.new.self.items + f.opened ≤ vec_capacity c.push_reserved-in-Err-Held.new.self = search rules in
    core_refused _ _ _ _ _ _ _ _ _ c.self.invariant c.args.session c.in-Err-Held.name c.in-Err-Held.holder c.args.needs.now
    (refused (past_of f.journal.items) f.locks c.self.invariant.ties.locks_are c.args.session c.args.needs.now c.in-Err-Held.name c.in-Err-Held.holder
    (subst (λ (k : Kept). state c.args.session (past k) ≡ states.Updating) (sym c.self.view_is) c.requires.updating) c.requires.of_call.0
    c.requires.of_call.1 (subst (IsRefusal f.locks c.args.session c.args.needs.now) c.in-Err-Held.field-0-is c.in-Err-Held.ensures.refused))
    (refused_follows c.args.session c.in-Err-Held.name c.in-Err-Held.holder c.args.needs.now (past_of f.journal.items)
    (subst (λ (k : Kept). Follows (events.Granted c.args.session c.args.needs.now) (past k)) (sym c.self.view_is) c.requires.follows))
    _ _ _ more c.in-Err-Held.ensures.err room

pub returns-in-Ok-clause-free : goal.returns-in-Ok-clause-free
returns-in-Ok-clause-free c = let f = c.self.inside in
    subst (λ (k : Kept). AllFree c.args.session c.args.needs.now (past k)) c.self.view_is
    (all_free (past_of f.journal.items) f.locks c.self.invariant.ties.locks_are c.args.session c.args.needs.now c.in-Ok.ensures.free)

pub returns-in-Ok-copy-clause-refused : goal.returns-in-Ok-copy-clause-refused
returns-in-Ok-copy-clause-refused c =
    let f = c.self.inside in
    let more : c.push_reserved-in-Err-Held.new.self.items
    ≡ f.journal.items ++ events.Refused c.args.session c.in-Err-Held.name c.in-Err-Held.holder c.args.needs.now ∷ [] =
    c.push_reserved-in-Err-Held.ensures.items
    ∙ ap (λ (l : List Event). l ++ events.Refused c.args.session c.in-Ok-copy.copy c.in-Err-Held.holder c.in_ok-asked.asked ∷ []) c.reserve.ensures.items
    ∙ (λ i. f.journal.items ++ events.Refused c.args.session (c.in-Ok-copy.ensures i) c.in-Err-Held.holder (c.in_ok-asked.ensures i) ∷ []) in (
      subst (λ (k : Kept). IsRefused c.args.session c.in-Err-Held.name c.in-Err-Held.holder c.args.needs.now (past k)) c.self.view_is
          (refused (past_of f.journal.items) f.locks c.self.invariant.ties.locks_are c.args.session c.args.needs.now c.in-Err-Held.name c.in-Err-Held.holder
          (subst (λ (k : Kept). state c.args.session (past k) ≡ states.Updating) (sym c.self.view_is) c.requires.updating) c.requires.of_call.0
          c.requires.of_call.1 (subst (IsRefusal f.locks c.args.session c.args.needs.now) c.in-Err-Held.field-0-is c.in-Err-Held.ensures.refused)),
      ap (kept_of f.base_commit f.base_generation f.base_forest.value) more
          ∙ ap (with_event (events.Refused c.args.session c.in-Err-Held.name c.in-Err-Held.holder c.args.needs.now)) c.self.view_is,
    )
