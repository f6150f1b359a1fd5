use Rattle.std.proofs.Common.{◌≡◌, ℕ, ◌<◌, List, length, drop, rules, arith, sym, subst}
use Rattle.std.specs.Prelude.{slice_index_or}
use Rattle.std.proofs.lemmas.List.{take_at}
use Rattle.hist_lock.specs.Crew.{hand, Ready, AllReady}
use Rattle.store_tests.specs.declared.hist_lock_calls.worker.Worker.{Worker}
use Rattle.store_tests.proofs.hist_lock_calls.run.work_all.Goals as goal

pub returns-clause-ready : goal.returns-clause-ready
returns-clause-ready g c =
    let new = c.for_each_mut.new.s in
    let seen_as = λ (w : Worker). hand w.number w.pass w.page.said.items w.page.saw.items in
    let long : length new ≡ c.args.workers.now.len = search rules in
    let was : length new ≡ length c.as_mut_slice.result.now = c.for_each_mut.auto.s in
    let each : (k : ℕ) (d : Worker) → k < length new → Ready seen_as c.args.lock.now k (slice_index_or new k d) =
    λ k d lt. let t = (c.for_each_mut.ensures k d (omega arith)).1 in subst (Ready seen_as c.args.lock.now k) t.left t.call in
    subst (λ (ws : List Worker). AllReady seen_as c.args.lock.now ws)
    (sym (take_at new (drop (length new) c.args.workers.now.items) c.args.workers.now.len long)) each
