use Rattle.std.proofs.Common.{◌++◌, sym, ap, ◌∙◌}
use Rattle.hist_lock.proofs.Crew.{adds_one}
use Rattle.store_tests.proofs.hist_lock_calls.worker.add.Goals as goal

pub returns-clause-mine : goal.returns-clause-mine
returns-clause-mine g c =
    let v = c.enter-held.ensures.pass in
    adds_one c.add-done.result c.value.result.now.entries.items c.add-done.new.self.entries.items c.args.pass.now.mine _ c.args.entry c.add-done.ensures.entries
    (λ new is. c.leave.ensures.mine new (is ∙ (ap (λ x. x.entries.items ++ new) c.value.ensures.value ∙ ap (λ p. p.seen ++ new) (sym v)))
    ∙ ap (λ p. p.mine ++ new) v)
