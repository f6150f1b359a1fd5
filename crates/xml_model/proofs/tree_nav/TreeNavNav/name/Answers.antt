use Rattle.std.proofs.Common.{sym, ap, ◌∙◌}
use Rattle.xml_model.proofs.TreeCalls.{along, told_nowhere, told_here}
use Rattle.xml_model.proofs.tree_nav.TreeNavNav.name.Goals as goal

pub returns-in_ok-name-in-Some-clause-gives : goal.returns-in_ok-name-in-Some-clause-gives
returns-in_ok-name-in-Some-clause-gives c =
    let F = c.args.self.now in
    let s = along c.self.inside.docs.now F c.deref.result.now c.self.inside.trees.items c.self.view_is c.deref.ensures.value c.self.invariant.0 in
    λ valid. c.in_ok-name-in-Some.ensures ∙ ap (λ t. t.name) (told_here F c.deref.result.now s c.args.n c.in-Some.tree.now (sym c.in-Some.ensures))

pub returns-in-None-clause-gives : goal.returns-in-None-clause-gives
returns-in-None-clause-gives c =
    let F = c.args.self.now in
    let s = along c.self.inside.docs.now F c.deref.result.now c.self.inside.trees.items c.self.view_is c.deref.ensures.value c.self.invariant.0 in
    λ valid. c.new.ensures ∙ ap (λ t. t.name) (told_nowhere F c.deref.result.now s valid c.args.n (sym c.in-None.ensures))
