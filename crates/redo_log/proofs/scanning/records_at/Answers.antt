use Rattle.std.proofs.Common.{List, ◌++◌, length, sym, ap, subst, arith}
use Rattle.std.proofs.lemmas.Result.{err_from_is_err_and}
use Rattle.redo_log.specs.declared.change.Change.{Change}
use Rattle.redo_log.specs.Reading.{AreRecords, IsRefused}
use Rattle.redo_log.proofs.Takes.{records_take}
use Rattle.redo_log.proofs.Opened.{records_taken}
use Rattle.redo_log.proofs.Scans.{byte_is, follows, refuses, ends_at, gate_fails, record_fails}
use Rattle.redo_log.proofs.scanning.records_at.Goals as goal

pub loop-changes-init : goal.loop-changes-init
loop-changes-init c =
    let none = c.new-changes.ensures.items in record {
      follow = λ cs end h. subst (λ (l : List Change). AreRecords c.args.store (l ++ cs) c.args.bytes.now end) (sym none) h;
      refused = λ cs left h. subst (λ (l : List Change). IsRefused c.args.store (l ++ cs) c.args.bytes.now left) (sym none) h;
    }

pub loop-changes-preserved : goal.loop-changes-preserved
loop-changes-preserved c =
    let l = c.loop-changes in let is = byte_is l.rest.now c.in_ok-gate.gate c.in_ok-gate.behind.now c.in_ok-gate.ensures.gives in record {
      follow = follows c.args.store c.args.bytes.now l.store l.rest.now l.changes.items c.in_ok-gate.gate c.in_ok-gate.behind.now c.in_ok-change.change
          c.in_ok-change.next.now c.record_at.new.store c.push.new.self.items
          l.invariant.follow is c.if-gate-ne1.false c.in_ok-change.ensures.gives c.in_ok-change.ensures.store c.in_ok-push.ensures.items;
      refused = refuses c.args.store c.args.bytes.now l.store l.rest.now l.changes.items c.in_ok-gate.gate c.in_ok-gate.behind.now c.in_ok-change.change
          c.in_ok-change.next.now c.record_at.new.store c.push.new.self.items
          l.invariant.refused is c.if-gate-ne1.false c.in_ok-change.ensures.gives c.in_ok-change.ensures.store c.in_ok-push.ensures.items;
    }

pub loop-changes-smaller : goal.loop-changes-smaller
loop-changes-smaller c =
    let is = byte_is c.loop-changes.rest.now c.in_ok-gate.gate c.in_ok-gate.behind.now c.in_ok-gate.ensures.gives in
    omega (arith, ap length is, c.in_ok-change.ensures.shorter)

pub returns-in_err-gate-clause-wrong : goal.returns-in_err-gate-clause-wrong
returns-in_err-gate-clause-wrong c =
    let p = err_from_is_err_and c.from_residual.result c.from_residual.ensures.1 in
    rw (p.1, p.2) (gate_fails c.args.store c.args.bytes.now c.loop-changes.store c.loop-changes.rest.now c.loop-changes.changes.items c.in_err-gate.field-0.0
    c.loop-changes.invariant.refused c.in_err-gate.ensures.gives)

pub returns-then-gate-ne1-clause-found : goal.returns-then-gate-ne1-clause-found
returns-then-gate-ne1-clause-found c =
    let l = c.loop-changes in let is = byte_is l.rest.now c.in_ok-gate.gate c.in_ok-gate.behind.now c.in_ok-gate.ensures.gives in
    ends_at c.args.store c.args.bytes.now l.store l.rest.now l.changes.items c.in_ok-gate.gate c.in_ok-gate.behind.now l.invariant.follow is c.if-gate-ne1.true

pub returns-then-gate-ne1-clause-spelled : goal.returns-then-gate-ne1-clause-spelled
returns-then-gate-ne1-clause-spelled c =
    let l = c.loop-changes in let is = byte_is l.rest.now c.in_ok-gate.gate c.in_ok-gate.behind.now c.in_ok-gate.ensures.gives in
    records_take l.changes.items c.args.store c.args.bytes.now l.rest.now (λ i. omega (arith, c.type_inv.bytes i))
    (ends_at c.args.store c.args.bytes.now l.store l.rest.now l.changes.items c.in_ok-gate.gate c.in_ok-gate.behind.now l.invariant.follow is
    c.if-gate-ne1.true)

pub returns-then-gate-ne1-clause-taken : goal.returns-then-gate-ne1-clause-taken
returns-then-gate-ne1-clause-taken c =
    let l = c.loop-changes in let is = byte_is l.rest.now c.in_ok-gate.gate c.in_ok-gate.behind.now c.in_ok-gate.ensures.gives in
    records_taken l.changes.items c.args.store c.args.bytes.now l.rest.now (λ i. omega (arith, c.type_inv.bytes i))
    (ends_at c.args.store c.args.bytes.now l.store l.rest.now l.changes.items c.in_ok-gate.gate c.in_ok-gate.behind.now l.invariant.follow is
    c.if-gate-ne1.true)

pub returns-in_err-change-clause-wrong : goal.returns-in_err-change-clause-wrong
returns-in_err-change-clause-wrong c =
    let l = c.loop-changes in let is = byte_is l.rest.now c.in_ok-gate.gate c.in_ok-gate.behind.now c.in_ok-gate.ensures.gives in
    let p = err_from_is_err_and c.from_residual-in_err-change.result c.from_residual-in_err-change.ensures.1 in
    rw (p.1, p.2) (record_fails c.args.store c.args.bytes.now l.store l.rest.now l.changes.items c.in_err-change.field-0.0 c.in_ok-gate.gate
    c.in_ok-gate.behind.now l.invariant.refused is c.if-gate-ne1.false c.in_err-change.ensures.gives)
