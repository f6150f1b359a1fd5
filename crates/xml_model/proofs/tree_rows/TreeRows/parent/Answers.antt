use Rattle.std.proofs.Common.{map, sym, ap, ◌∙◌, arith}
use Rattle.xml_model.specs.TreeRows.{placed_by, row_of}
use Rattle.xml_model.proofs.RowCalls.{parent_absent, parent_of_root, parent_there, back_of_entry, within}
use Rattle.xml_model.proofs.tree_rows.TreeRows.parent.Goals as goal

pub returns-in_default-clause-gives : goal.returns-in_default-clause-gives
returns-in_default-clause-gives c =
    let root = placed_by c.args.self.now.root in
    let s = ap (map row_of) c.deref.ensures.value ∙ c.args.self.now.are in
    parent_absent root c.deref.result.now s c.args.n (sym c.in_default.ensures)

pub returns-then-n-eq0-clause-gives : goal.returns-then-n-eq0-clause-gives
returns-then-n-eq0-clause-gives c =
    let root = placed_by c.args.self.now.root in
    let s = ap (map row_of) c.deref.ensures.value ∙ c.args.self.now.are in
    parent_of_root root c.deref.result.now s c.args.n c.in-Some.entry.now (sym c.in-Some.ensures) (omega arith)

pub overflow_sub-result : goal.overflow_sub-result
overflow_sub-result c =
    let root = placed_by c.args.self.now.root in
    let s = ap (map row_of) c.deref.ensures.value ∙ c.args.self.now.are in
    (back_of_entry root c.deref.result.now s c.args.n c.in-Some.entry.now (sym c.in-Some.ensures) (omega arith)).1

pub returns-clause-gives : goal.returns-clause-gives
returns-clause-gives c =
    let root = placed_by c.args.self.now.root in
    let s = ap (map row_of) c.deref.ensures.value ∙ c.args.self.now.are in
    parent_there root c.deref.result.now s c.args.n c.in-Some.entry.now (sym c.in-Some.ensures) (omega arith)

pub returns-clause-before : goal.returns-clause-before
returns-clause-before c =
    let root = placed_by c.args.self.now.root in
    let s = ap (map row_of) c.deref.ensures.value ∙ c.args.self.now.are in
    let b = back_of_entry root c.deref.result.now s c.args.n c.in-Some.entry.now (sym c.in-Some.ensures) (omega arith) in
    (omega (arith, b.0, b.1), omega (arith, b.0, b.1, within root c.deref.result.now s c.args.n c.in-Some.entry.now (sym c.in-Some.ensures), c.deref.ensures.len, c.args.self.now.few))
