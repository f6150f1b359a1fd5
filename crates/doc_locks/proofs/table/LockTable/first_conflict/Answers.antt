use Rattle.std.proofs.Common.{subst, All, refl, arith}
use Rattle.std.proofs.lemmas.Option.{slice_get_read}
use Rattle.std.proofs.lemmas.List.Elements.{All-more}
use Rattle.std.proofs.lemmas.List.{take_all}
use Rattle.doc_locks.specs.Locks.{IsFree}
use Rattle.doc_locks.proofs.Grants.{first_conflict}
use Rattle.doc_locks.proofs.table.LockTable.first_conflict.Goals as goal

pub loop-place-init : goal.loop-place-init
loop-place-init c = λ k d within. absurd (omega arith)

pub returns-in-Some-clause-first : goal.returns-in-Some-clause-first
returns-in-Some-clause-first c =
    first_conflict c.args.self.now c.args.session c.args.needs.now c.loop-place.place c.in-Some.holder c.index-needs-place.result
    (slice_get_read c.args.needs.now _ c.loop-place.place c.index-needs-place.result refl c.loop-place-test.true c.index-needs-place.is)
    c.loop-place.invariant c.in-Some.ensures.least

pub loop-place-preserved : goal.loop-place-preserved
loop-place-preserved c =
    All-more (IsFree c.args.self.now c.args.session) c.args.needs.now c.loop-place.place c.index-needs-place.result c.loop-place-test.true
    c.loop-place.invariant
    (subst (IsFree c.args.self.now c.args.session) c.index-needs-place.is c.in_default.ensures.free)

pub returns-clause-free : goal.returns-clause-free
returns-clause-free c = subst (All (IsFree c.args.self.now c.args.session))
    (take_all c.loop-place.place c.args.needs.now c.loop-place-test.false) c.loop-place.invariant
