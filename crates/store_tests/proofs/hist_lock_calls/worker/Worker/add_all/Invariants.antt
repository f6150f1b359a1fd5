use Rattle.hist_lock.specs.Crew.{hand, Ready}
use Rattle.store_tests.specs.declared.hist_lock_calls.worker.Worker.{Worker}
use Rattle.store_tests.proofs.hist_lock_calls.worker.Worker.add_all.Given as goal

abbrev pub invariant-loop-what : goal.invariant-loop-what
invariant-loop-what g l = Ready (λ (w : Worker). hand w.number w.pass w.page.said.items w.page.saw.items) l.lock l.place l.self
