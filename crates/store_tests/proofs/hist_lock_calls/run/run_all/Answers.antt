use Rattle.std.proofs.Common.{◌≡◌, [], length, refl, sym, ap, ◌∙◌}
use Rattle.hist_lock.specs.Crew.{hand}
use Rattle.store_tests.specs.declared.hist_lock_calls.worker.Page.{Page}
use Rattle.store_tests.specs.declared.hist_lock_calls.worker.Worker.{Worker}
use Rattle.hist_lock.proofs.Crew.{all_joined, all_told}
use Rattle.store_tests.proofs.hist_lock_calls.run.run_all.Goals as goal

pub close-requires-clause-joined : goal.close-requires-clause-joined
close-requires-clause-joined g c =
    let made : c.gather.new.opener.made ≡ length c.work_all.new.workers.items = ap (λ p. p.made) c.gather.ensures.opener
    ∙ (ap (λ p. p.made) c.hire.ensures.opener ∙ sym (c.work_all.ensures.count ∙ c.hire.ensures.count)) in
    all_joined (λ (w : Worker). hand w.number w.pass w.page.said.items w.page.saw.items) (λ (w : Worker). w.page) (λ (p : Page). p.said.items)
    (λ (p : Page). p.saw.items)
    (λ w. (refl, refl)) c.in_ok-lock.lock c.work_all.new.workers.items c.work_all.ensures.ready c.gather.new.opener c.gather.ensures.kept made

pub returns-clause-tells : goal.returns-clause-tells
returns-clause-tells g c =
    let made : c.gather.new.opener.made ≡ length c.work_all.new.workers.items = ap (λ p. p.made) c.gather.ensures.opener
    ∙ (ap (λ p. p.made) c.hire.ensures.opener ∙ sym (c.work_all.ensures.count ∙ c.hire.ensures.count)) in
    let none_own : c.gather.new.opener.mine ≡ [] = ap (λ p. p.mine) c.gather.ensures.opener
    ∙ (ap (λ p. p.mine) c.hire.ensures.opener ∙ ap (λ p. p.mine) c.in_ok-lock.ensures.pass) in
    all_told (λ (w : Worker). hand w.number w.pass w.page.said.items w.page.saw.items) (λ (w : Worker). w.page) (λ (p : Page). p.said.items)
    (λ (p : Page). p.saw.items)
    (λ w. (refl, refl)) c.in_ok-lock.lock c.work_all.new.workers.items c.work_all.ensures.ready c.gather.new.opener c.gather.ensures.kept made _
    c.close.result.entries.items c.gather.new.pages.items c.gather.ensures.pages none_own c.close.ensures.list
