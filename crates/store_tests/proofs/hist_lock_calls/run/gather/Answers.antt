use Rattle.std.proofs.Common.{◌≡◌, ◌∷◌, rules, ap}
use Rattle.std.specs.Vec.Iter.{into_iter_items}
use Rattle.hist_lock.specs.Crew.{hand, AtLock, kept_by}
use Rattle.store_tests.specs.declared.hist_lock_calls.worker.Worker.{Worker}
use Rattle.hist_lock.proofs.Crew.{moves_one, All_rest, still_opener}
use Rattle.store_tests.proofs.hist_lock_calls.run.gather.Goals as goal

pub loop-worker-preserved : goal.loop-worker-preserved
loop-worker-preserved c =
    let i = c.loop-worker.invariant in
    let j = c.join.ensures in
    let items : into_iter_items c.loop-worker.rest ≡ c.in-Some.worker ∷ into_iter_items c.next.new.self = c.in-Some.ensures.items in
    record {
      opener = still_opener c.args.opener.now c.loop-worker.opener c.join.new.opener c.in-Some.worker.pass i.opener j;
      waiting = All_rest (AtLock (λ (w : Worker). hand w.number w.pass w.page.said.items w.page.saw.items) c.args.lock.now) _ _ _ items i.waiting;
      kept = moves_one (λ (w : Worker). kept_by w.pass) _ _ _ _ _ _ i.kept items (ap (λ p. p.kept) j);
      pages = moves_one (λ (w : Worker). w.page) _ _ _ _ _ _ i.pages items c.push_reserved.ensures.items;
      room = search rules;
    }
