use Rattle.std.proofs.Common.{All, ◌≡◌, ◌≤◌, ◌+◌, ◌++◌, map, vec_len, vec_capacity}
use Rattle.std.specs.Vec.Iter.{into_iter_items, into_iter_len}
use Rattle.hist_lock.specs.Crew.{hand, AtLock, kept_by}
use Rattle.store_tests.specs.declared.hist_lock_calls.worker.Worker.{Worker}
use Rattle.store_tests.proofs.hist_lock_calls.run.gather.Given as goal

abbrev pub invariant-loop-worker : goal.invariant-loop-worker
invariant-loop-worker l = record {
  opener : l.opener ≡ record l.initial.opener { seen = l.opener.seen; kept = l.opener.kept };
  waiting : All (AtLock (λ (w : Worker). hand w.number w.pass w.page.said.items w.page.saw.items) l.lock) (into_iter_items l.rest);
  kept : l.opener.kept ++ map (λ (w : Worker). kept_by w.pass) (into_iter_items l.rest) ≡ map (λ (w : Worker). kept_by w.pass) l.fn.workers.items;
  pages : l.pages.items ++ map (λ (w : Worker). w.page) (into_iter_items l.rest) ≡ map (λ (w : Worker). w.page) l.fn.workers.items;
  room : vec_len l.pages + into_iter_len l.rest ≤ vec_capacity l.pages;
}

abbrev pub decreases-loop-worker : goal.decreases-loop-worker
decreases-loop-worker l = into_iter_len l.rest
