use Rattle.std.proofs.Common.{nat_cmp, ap, sym, ◌∙◌}
use Rattle.std.specs.Cmp.Lexicographic.{slice_cmp}
use Rattle.std.proofs.lemmas.Cmp.{nat_list_cmp_total, tied_itself}
use Rattle.xml_model.specs.TreeNodes.{tree_name}
use Rattle.xml_model.proofs.tree_nav.names_order.Goals as goal

pub returns-then-a-b : goal.returns-then-a-b
returns-then-a-b c =
    sym (ap (λ b. slice_cmp nat_cmp (tree_name c.args.trees.now c.args.a) (tree_name c.args.trees.now b)) (sym c.if-a-b.true)
    ∙ tied_itself nat_list_cmp_total (tree_name c.args.trees.now c.args.a))
