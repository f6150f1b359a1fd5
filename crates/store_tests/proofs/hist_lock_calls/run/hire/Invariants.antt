use Rattle.std.proofs.Common.{◌≡◌, length, vec_capacity}
use Rattle.hist_lock.specs.Crew.{hand, AllReady}
use Rattle.store_tests.specs.declared.hist_lock_calls.worker.Worker.{Worker}
use Rattle.store_tests.proofs.hist_lock_calls.run.hire.Given as goal

abbrev pub invariant-loop-place : goal.invariant-loop-place
invariant-loop-place l = record {
  opener : l.opener ≡ record l.initial.opener { made = l._place };
  workers : AllReady (λ (w : Worker). hand w.number w.pass w.page.said.items w.page.saw.items) l.lock l.workers.items;
  count : length l.workers.items ≡ l._place;
  room : vec_capacity l.workers ≡ vec_capacity l.initial.workers;
}
