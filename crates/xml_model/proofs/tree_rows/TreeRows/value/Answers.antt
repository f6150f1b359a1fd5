use Rattle.std.proofs.Common.{◌≡◌, map, IfOk, sym, ap, subst, ◌∙◌}
use Rattle.xml_model.specs.TreeRows.{placed_by, row_of}
use Rattle.xml_model.proofs.RowCalls.{told_absent, told_there}
use Rattle.xml_model.proofs.tree_rows.TreeRows.value.Goals as goal

pub returns-in-Some : goal.returns-in-Some
returns-in-Some c =
    let root = placed_by c.args.self.now.root in
    let s = ap (map row_of) c.deref.ensures.value ∙ c.args.self.now.are in
    subst (λ t. IfOk c.value_in.result (λ s. s ≡ t.value)) (told_there root c.deref.result.now s c.args.n c.in-Some.entry.now (sym c.in-Some.ensures)) c.value_in.ensures

pub returns-in-None : goal.returns-in-None
returns-in-None c =
    let root = placed_by c.args.self.now.root in
    let s = ap (map row_of) c.deref.ensures.value ∙ c.args.self.now.are in
    c.new.ensures ∙ ap (λ t. t.value) (told_absent root c.deref.result.now s c.args.n (sym c.in-None.ensures))
