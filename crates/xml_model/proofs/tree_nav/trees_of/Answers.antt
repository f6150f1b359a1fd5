use Rattle.std.proofs.Common.{◌≡◌, IfSome, is_some, sym, ap, subst, ◌∙◌, true≢false, arith}
use Rattle.xml_model.specs.TreeNodes.{IsTreeOf}
use Rattle.xml_model.proofs.TreesMade.{tree_added, name_has_document}
use Rattle.xml_model.proofs.tree_nav.trees_of.Goals as goal
use Rattle.xml_model.proofs.tree_nav.trees_of.Goals.{in-Some+in_ok-push, in_default}

pub loop-name-preserved : goal.loop-name-preserved
loop-name-preserved c =
    elim c.match-branch-2.branch [
      | in-Some+in_ok-push w ↦
          let is = subst (λ o. IfSome o (λ tree. (tree.name ≡ c.name-item.result) × IsTreeOf c.args.docs.now tree)) w.in-Some.is c.in_ok-tree.ensures.tree in
          tree_added c.args.docs.now c.loop-name.trees.items c.match-branch-2.trees.items w.in-Some.tree c.as_slice-name-items.result.now c.loop-name.name-index c.name-item.result
          c.loop-name.invariant.0 c.loop-name.invariant.1 (omega arith) c.name-item.is (ap (λ v. v.items) w.trees-is ∙ w.in_ok-push.ensures.items) is.0 is.1
      | in_default w ↦
          absurd (true≢false (sym (name_has_document c.args.docs.now c.as_slice-name-items.result.now c.loop-name.name-index c.name-item.result
          (c.as_slice-name-items.ensures ∙ c.requires) (omega arith) c.name-item.is) ∙ (sym c.in_ok-tree.ensures.some ∙ ap is_some w.in_default.is)))
    ]
