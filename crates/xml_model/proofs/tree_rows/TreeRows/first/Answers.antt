use Rattle.std.proofs.Common.{map, sym, ap, ◌∙◌, arith}
use Rattle.xml_model.specs.TreeRows.{placed_by, row_of}
use Rattle.xml_model.proofs.RowCalls.{first_absent, first_none, first_there, within}
use Rattle.xml_model.proofs.tree_rows.TreeRows.first.Goals as goal

pub returns-in_default-clause-gives : goal.returns-in_default-clause-gives
returns-in_default-clause-gives c =
    let root = placed_by c.args.self.now.root in
    let s = ap (map row_of) c.deref.ensures.value ∙ c.args.self.now.are in
    first_absent root c.deref.result.now s c.args.n (sym c.in_default.ensures)

pub returns-then-entry-le1-clause-gives : goal.returns-then-entry-le1-clause-gives
returns-then-entry-le1-clause-gives c =
    let root = placed_by c.args.self.now.root in
    let s = ap (map row_of) c.deref.ensures.value ∙ c.args.self.now.are in
    first_none root c.deref.result.now s c.args.n c.in-Some.entry.now (sym c.in-Some.ensures) (omega arith)

pub overflow_add-result : goal.overflow_add-result
overflow_add-result c =
    let root = placed_by c.args.self.now.root in
    let s = ap (map row_of) c.deref.ensures.value ∙ c.args.self.now.are in
    omega (arith, within root c.deref.result.now s c.args.n c.in-Some.entry.now (sym c.in-Some.ensures), c.deref.ensures.len, c.args.self.now.few)

pub returns-clause-gives : goal.returns-clause-gives
returns-clause-gives c =
    let root = placed_by c.args.self.now.root in
    let s = ap (map row_of) c.deref.ensures.value ∙ c.args.self.now.are in
    first_there root c.deref.result.now s c.args.n c.in-Some.entry.now (sym c.in-Some.ensures) (omega arith)

pub returns-clause-behind : goal.returns-clause-behind
returns-clause-behind c =
    let root = placed_by c.args.self.now.root in
    let s = ap (map row_of) c.deref.ensures.value ∙ c.args.self.now.are in
    (omega arith, omega (arith, within root c.deref.result.now s c.args.n c.in-Some.entry.now (sym c.in-Some.ensures), c.deref.ensures.len, c.args.self.now.few))
