use Rattle.std.proofs.Common.{◌≡◌, ℕ, ◌+◌, ◌++◌, length, rules, sym, ap, ◌∙◌, subst}
use Rattle.hist_lock.specs.Crew.{hand, AllReady}
use Rattle.hist_lock.specs.Passes.{Known}
use Rattle.store_tests.specs.declared.hist_lock_calls.journal.Entry.{Entry}
use Rattle.store_tests.specs.declared.hist_lock_calls.worker.Worker.{Worker}
use Rattle.hist_lock.proofs.Crew.{ready_snoc}
use Rattle.store_tests.proofs.hist_lock_calls.run.hire.Goals as goal

pub loop-place-preserved : goal.loop-place-preserved
loop-place-preserved c =
    let i = c.loop-place.invariant in
    let new = c.split-pass.ensures.new in
    let place : c.loop-place._place + 1 ≡ length c.loop-place.workers.items + 1 = ap (λ (n : ℕ). n + 1) (sym i.count) in
    let seen_as = λ (w : Worker). hand w.number w.pass w.page.said.items w.page.saw.items in
    record {
      opener = c.split-pass.ensures.opener ∙ ap (λ (p : Known Entry ℕ). record p { made = p.made + 1 }) i.opener;
      workers = subst (AllReady seen_as c.args.lock.now) (sym c.push_reserved.ensures.items)
          (ready_snoc seen_as c.args.lock.now c.loop-place.workers.items _ i.workers record {
            number = c.made.ensures ∙ (ap (λ p. p.made) c.split-pass.ensures.opener ∙ (ap (λ p. p.made + 1) i.opener ∙ place));
            at_lock = ap (λ p. p.lock) new ∙ (ap (λ p. p.lock) i.opener ∙ c.requires.lock);
            id = ap (λ p. p.id) new ∙ (ap (λ p. p.made + 1) i.opener ∙ place);
            outside = ap (λ p. p.inside) new;
            told = ap (λ p. p.mine) new ∙ sym c.new.ensures.items;
            found = (c.split-pass.result.seen, ap (λ l. l ++ c.split-pass.result.seen) (sym c.new-in-loop-place.ensures.items));
          });
      count = search rules;
      room = search rules;
    }
