use Rattle.std.proofs.Common.{◌≡◌, ◌∙◌, ap, sym, is_some, unwrap_or, Some, None, false, Option, true≢false, refl}
use Rattle.std.specs.FinMap as map
use Rattle.std.proofs.lemmas.Result.{on_err_weaker}
use Rattle.doc_locks.specs.Names.{Names}
use Rattle.doc_locks.specs.Locks.{with_needs}
use Rattle.doc_locks.proofs.Entries.{get-map_of, map_of-insert}
use Rattle.doc_locks.proofs.Grants.{insert-same}
use Rattle.doc_locks.proofs.table.LockTable.grant.Goals as goal

none_there : (o : Option Names) → is_some o ≡ false → o ≡ None
none_there None is = refl
none_there (Some x) is = absurd (true≢false is)

pub lend-requires : goal.lend-requires
lend-requires c =
    ap is_some (sym (ap (λ m. map.get m c.args.session) c.self.view_is)) ∙ ap is_some (get-map_of c.self.inside.sessions.entries c.args.session)
    ∙ sym c.contains_key.ensures ∙ c.if-contains_key.true

pub returns-then-contains_key-clause-err : goal.returns-then-contains_key-clause-err
returns-then-contains_key-clause-err c =
    on_err_weaker c.add.result (λ same. ap (map.insert c.args.self.now c.args.session) same
    ∙ insert-same c.args.self.now c.args.session c.lend.result.now c.lend.ensures.value) c.add.ensures.err

pub returns-clause-ok : goal.returns-clause-ok
returns-clause-ok c =
    let s = c.args.session in let old = c.args.self.now in
    let none : map.get old s ≡ None =
    none_there (map.get old s) (ap is_some (sym (ap (λ m. map.get m s) c.self.view_is) ∙ get-map_of c.self.inside.sessions.entries s)
    ∙ sym c.contains_key.ensures ∙ c.if-contains_key.false) in
    map_of-insert c.self.inside.sessions c.insert.new.self s c.add-2.new.self c.in_ok-insert.ensures.updates
    ∙ ap (λ m. map.insert m s c.add-2.new.self) c.self.view_is
    ∙ ap (map.insert old s) (c.in_ok-add.ensures.ok ∙ ap (with_needs c.args.needs.now) (c.new-own.ensures ∙ ap (λ o. unwrap_or o map.empty) (sym none)))
