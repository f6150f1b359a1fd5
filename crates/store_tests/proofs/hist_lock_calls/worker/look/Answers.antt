use Rattle.std.proofs.Common.{[], sym, ap, ◌∙◌}
use Rattle.std.proofs.lemmas.List.{append-nil}
use Rattle.store_tests.proofs.hist_lock_calls.worker.look.Goals as goal

pub returns-clause-mine : goal.returns-clause-mine
returns-clause-mine g c =
    let v = c.enter-held.ensures.pass in
    c.leave.ensures.mine [] (ap (λ x. x.entries.items) c.value.ensures.value ∙ (ap (λ p. p.seen) (sym v) ∙ sym (append-nil _)))
    ∙ (append-nil _ ∙ ap (λ p. p.mine) v)
