use Rattle.std.proofs.Common.{Result, Ok, Err, IsOk, OnOk, ap, sym, ◌∙◌, true≢false}
use Rattle.std.specs.FinMap as map
use Rattle.doc_locks.specs.Names.{names_of_entries}
use Rattle.xq_ast.specs.Modes.{stronger}
use Rattle.doc_locks.proofs.Entries.{get-names, names-insert}
use Rattle.doc_locks.proofs.held.put.Goals as goal

on_ok : {T E P : Type 0} (r : Result T E) → IsOk r → OnOk r P → P
on_ok (Ok x) is p = p
on_ok (Err e) is p = absurd (true≢false (sym is))

pub returns-clause-put : goal.returns-clause-put
returns-clause-put c =
    let old = c.args.modes.now in let name = c.args.need.name in
    let had = c.copied.ensures ∙ c.get.ensures.value ∙ sym (get-names old.entries c.as_str.result.now)
    ∙ ap (map.get (names_of_entries old.entries)) c.as_str.ensures in
    names-insert old c.insert.new.self c.into_string.result c.stronger_mode-mode.result
    (on_ok c.insert.result (c.insert.ensures.succeeds c.requires.room) c.insert.ensures.updates)
    ∙ (λ i. map.insert (names_of_entries old.entries) (c.into_string.ensures i) ((c.stronger_mode-mode.ensures ∙ ap (stronger c.args.need.mode) had) i))
