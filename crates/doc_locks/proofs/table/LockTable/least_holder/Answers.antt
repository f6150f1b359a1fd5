use Rattle.std.proofs.Common.{◌≡◌, ◌≤◌, ◌<◌, [], drop, ap, sym, subst, ◌∙◌, true≢false, IfNone, IfSome, ◌+◌}
use Rattle.std.proofs.lemmas.List.{drop_all}
use Rattle.std.specs.Map.{keys_of}
use Rattle.doc_locks.specs.Locks.{IsFree, IsLeastHolder}
use Rattle.doc_locks.proofs.Entries.{get-map_of}
use Rattle.doc_locks.proofs.Leasts.{least_in}
use Rattle.doc_locks.proofs.Grants.{blocked, looked, free_end, least_end}
use Rattle.doc_locks.proofs.table.LockTable.least_holder.Goals as goal
use Rattle.doc_locks.proofs.table.LockTable.least_holder.Goals.{in-Some, in_default}

pub loop-place-preserved : goal.loop-place-preserved
loop-place-preserved c =
    let es = c.self.inside.sessions.entries in let session = c.args.session in let need = c.args.need.now in let place = c.loop-place.place in
    elim c.match-get_index.branch [
      | in-Some w ↦
          ap (least_in (blocked es session need) (keys_of (drop (place + 1) es))) (w.least-is ∙ w.with_holder-least.ensures)
          ∙ looked es session need place c.loop-place.least w.in-Some.holder.now w.in-Some.held.now w.blocks-in-Some.result (sym w.in-Some.ensures.entry)
          (get-map_of es w.in-Some.holder.now ∙ w.in-Some.ensures.value) w.blocks-in-Some.ensures
          ∙ c.loop-place.invariant
      | in_default w ↦ absurd (true≢false (sym (w.in_default.ensures.found.1 (subst (λ n. place < n) c.len-place-end.ensures.len c.loop-place-test.true))))
    ]

pub returns-clause-free : goal.returns-clause-free
returns-clause-free c =
    let es = c.self.inside.sessions.entries in let session = c.args.session in let need = c.args.need.now in
    let none : drop c.loop-place.place es ≡ [] =
    drop_all c.loop-place.place es (subst (λ n. n ≤ c.loop-place.place) c.len-place-end.ensures.len c.loop-place-test.false) in
    subst (λ t. IfNone c.loop-place.least (IsFree t session need)) c.self.view_is
    (free_end es session need c.loop-place.least (sym (ap (λ xs. least_in (blocked es session need) (keys_of xs) c.loop-place.least) none)
    ∙ c.loop-place.invariant))

pub returns-clause-least : goal.returns-clause-least
returns-clause-least c =
    let es = c.self.inside.sessions.entries in let session = c.args.session in let need = c.args.need.now in
    let none : drop c.loop-place.place es ≡ [] =
    drop_all c.loop-place.place es (subst (λ n. n ≤ c.loop-place.place) c.len-place-end.ensures.len c.loop-place-test.false) in
    subst (λ t. IfSome c.loop-place.least (IsLeastHolder t session need)) c.self.view_is
    (least_end es session need c.loop-place.least (sym (ap (λ xs. least_in (blocked es session need) (keys_of xs) c.loop-place.least) none)
    ∙ c.loop-place.invariant))
