use Rattle.std.proofs.Common.{sym, ap, ◌∙◌}
use Rattle.std.specs.Option.{option_map}
use Rattle.xml_model.specs.Nav.{parent_place}
use Rattle.xml_model.specs.TreeNodes.{node_of_id}
use Rattle.xml_model.proofs.TreeCalls.{along, gone_nowhere, gone_here, rises}
use Rattle.xml_model.proofs.tree_nav.TreeNavNav.parent.Goals as goal

pub returns-in_default-clause-gives : goal.returns-in_default-clause-gives
returns-in_default-clause-gives c =
    let F = c.args.self.now in
    let s = along c.self.inside.docs.now F c.deref.result.now c.self.inside.trees.items c.self.view_is c.deref.ensures.value c.self.invariant.0 in
    λ valid. gone_nowhere F c.deref.result.now s parent_place valid c.args.n (sym c.in_default.ensures)

pub returns-clause-gives : goal.returns-clause-gives
returns-clause-gives c =
    let F = c.args.self.now in
    let s = along c.self.inside.docs.now F c.deref.result.now c.self.inside.trees.items c.self.view_is c.deref.ensures.value c.self.invariant.0 in
    λ valid. ap (option_map (node_of_id F)) c.in_document.ensures ∙ gone_here F c.deref.result.now s parent_place c.args.n c.in-Some.tree.now c.parent.result (sym c.in-Some.ensures) c.parent.ensures.gives

pub returns-clause-rises : goal.returns-clause-rises
returns-clause-rises c =
    let F = c.args.self.now in
    let s = along c.self.inside.docs.now F c.deref.result.now c.self.inside.trees.items c.self.view_is c.deref.ensures.value c.self.invariant.0 in
    rises c.args.n c.parent.result c.in_document.result c.in_document.ensures c.parent.ensures.before
