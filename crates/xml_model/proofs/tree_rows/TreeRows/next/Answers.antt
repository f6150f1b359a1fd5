use Rattle.std.proofs.Common.{◌-◌, map, sym, ap, ◌∙◌, arith}
use Rattle.std.specs.List.{slice_get}
use Rattle.xml_model.specs.TreeRows.{placed_by, row_of}
use Rattle.xml_model.proofs.RowCalls.{next_absent, next_of_root, next_there, next_none, holder_there, back_of_entry, size_of_entry, within}
use Rattle.xml_model.proofs.tree_rows.TreeRows.next.Goals as goal

pub returns-in_default-clause-gives : goal.returns-in_default-clause-gives
returns-in_default-clause-gives c =
    let root = placed_by c.args.self.now.root in
    let s = ap (map row_of) c.deref.ensures.value ∙ c.args.self.now.are in
    next_absent root c.deref.result.now s c.args.n (sym c.in_default.ensures)

pub returns-then-n-eq0-clause-gives : goal.returns-then-n-eq0-clause-gives
returns-then-n-eq0-clause-gives c =
    let root = placed_by c.args.self.now.root in
    let s = ap (map row_of) c.deref.ensures.value ∙ c.args.self.now.are in
    next_of_root root c.deref.result.now s c.args.n c.in-Some.entry.now (sym c.in-Some.ensures) (omega arith)

pub overflow_sub-parent : goal.overflow_sub-parent
overflow_sub-parent c =
    let root = placed_by c.args.self.now.root in
    let s = ap (map row_of) c.deref.ensures.value ∙ c.args.self.now.are in
    (back_of_entry root c.deref.result.now s c.args.n c.in-Some.entry.now (sym c.in-Some.ensures) (omega arith)).1

pub returns-in_default-entry_of-clause-gives : goal.returns-in_default-entry_of-clause-gives
returns-in_default-entry_of-clause-gives c =
    let root = placed_by c.args.self.now.root in
    let s = ap (map row_of) c.deref.ensures.value ∙ c.args.self.now.are in
    let same = ap (λ rows. slice_get rows (c.args.n - c.in-Some.entry.now.back)) (c.deref.ensures.value ∙ sym c.deref-2.ensures.value) in
    absurd (holder_there root c.deref.result.now s c.args.n c.in-Some.entry.now (sym c.in-Some.ensures) (omega arith) (same ∙ sym c.in_default-entry_of.ensures))

pub overflow_add-behind : goal.overflow_add-behind
overflow_add-behind c =
    let root = placed_by c.args.self.now.root in
    let s = ap (map row_of) c.deref.ensures.value ∙ c.args.self.now.are in
    omega (arith, within root c.deref.result.now s c.args.n c.in-Some.entry.now (sym c.in-Some.ensures), c.deref.ensures.len, c.args.self.now.few)

pub overflow_add-parent : goal.overflow_add-parent
overflow_add-parent c =
    let root = placed_by c.args.self.now.root in
    let s = ap (map row_of) c.deref.ensures.value ∙ c.args.self.now.are in
    let s2 = ap (map row_of) c.deref-2.ensures.value ∙ c.args.self.now.are in
    omega (arith, within root c.deref-2.result.now s2 (c.args.n - c.in-Some.entry.now.back) c.in-Some-entry_of.holder.now (sym c.in-Some-entry_of.ensures), c.deref-2.ensures.len, c.args.self.now.few)

pub returns-then-behind-parent-clause-gives : goal.returns-then-behind-parent-clause-gives
returns-then-behind-parent-clause-gives c =
    let root = placed_by c.args.self.now.root in
    let s = ap (map row_of) c.deref.ensures.value ∙ c.args.self.now.are in
    let same = ap (λ rows. slice_get rows (c.args.n - c.in-Some.entry.now.back)) (c.deref.ensures.value ∙ sym c.deref-2.ensures.value) in
    next_none root c.deref.result.now s c.args.n c.in-Some.entry.now c.in-Some-entry_of.holder.now (sym c.in-Some.ensures) (omega arith) (same ∙ sym c.in-Some-entry_of.ensures) (omega arith)

pub returns-clause-gives : goal.returns-clause-gives
returns-clause-gives c =
    let root = placed_by c.args.self.now.root in
    let s = ap (map row_of) c.deref.ensures.value ∙ c.args.self.now.are in
    let same = ap (λ rows. slice_get rows (c.args.n - c.in-Some.entry.now.back)) (c.deref.ensures.value ∙ sym c.deref-2.ensures.value) in
    next_there root c.deref.result.now s c.args.n c.in-Some.entry.now c.in-Some-entry_of.holder.now (sym c.in-Some.ensures) (omega arith) (same ∙ sym c.in-Some-entry_of.ensures) (omega arith)

pub returns-clause-behind : goal.returns-clause-behind
returns-clause-behind c =
    let root = placed_by c.args.self.now.root in
    let s = ap (map row_of) c.deref.ensures.value ∙ c.args.self.now.are in
    let s2 = ap (map row_of) c.deref-2.ensures.value ∙ c.args.self.now.are in
    let one = size_of_entry root c.deref.result.now s c.args.n c.in-Some.entry.now (sym c.in-Some.ensures) in
    let few = within root c.deref-2.result.now s2 (c.args.n - c.in-Some.entry.now.back) c.in-Some-entry_of.holder.now (sym c.in-Some-entry_of.ensures) in
    (omega arith, omega (arith, few, c.deref-2.ensures.len, c.args.self.now.few))
