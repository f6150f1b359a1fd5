use Rattle.std.proofs.Common.{subst, sym, ◌∙◌, ◌<◌, length}
use Rattle.doc_locks.specs.Locks.{IsFirstConflict}
use Rattle.doc_locks.specs.Refusal.{NamesConflict}
use Rattle.doc_locks.proofs.Grants.{refused, conflict_within}
use Rattle.doc_locks.proofs.table.LockTable.ask.Goals as goal

pub refusal-requires : goal.refusal-requires
refusal-requires c =
    subst (λ ns. c.in-Some.conflict.place < length ns) (c.as_slice.ensures ∙ sym c.as_slice-in-Some.ensures)
    (conflict_within c.args.self.now c.args.session c.as_slice.result.now c.in-Some.conflict.place c.in-Some.conflict.holder c.in-Some.ensures.first)

pub returns-in-Some-clause-refused : goal.returns-in-Some-clause-refused
returns-in-Some-clause-refused c =
    let place = c.in-Some.conflict.place in let holder = c.in-Some.conflict.holder in
    refused c.args.self.now c.args.session c.args.needs.now place holder c.refusal.result
    (subst (λ ns. IsFirstConflict c.args.self.now c.args.session ns place holder) c.as_slice.ensures c.in-Some.ensures.first)
    (subst (λ ns. NamesConflict ns place holder c.refusal.result) c.as_slice-in-Some.ensures c.refusal.ensures)
