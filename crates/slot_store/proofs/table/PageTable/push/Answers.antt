use Rattle.std.proofs.Common.{◌≡◌, OnOk, subst}
use Rattle.slot_store.proofs.Places.{insert_last}
use Rattle.slot_store.proofs.table.PageTable.push.Goals as goal

pub returns-clause-ok : goal.returns-clause-ok
returns-clause-ok c =
    subst (λ l. OnOk c.insert.result (c.insert.new.self ≡ l)) (insert_last c.args.row c.args.self.now c.requires.last) c.insert.ensures.ok
