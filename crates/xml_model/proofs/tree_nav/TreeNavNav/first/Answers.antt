use Rattle.std.proofs.Common.{sym, ap, ◌∙◌}
use Rattle.std.specs.Option.{option_map}
use Rattle.xml_model.specs.Nav.{first_place}
use Rattle.xml_model.specs.TreeNodes.{node_of_id}
use Rattle.xml_model.proofs.TreeCalls.{along, gone_nowhere, gone_here, falls}
use Rattle.xml_model.proofs.tree_nav.TreeNavNav.first.Goals as goal

pub returns-in_default-clause-gives : goal.returns-in_default-clause-gives
returns-in_default-clause-gives c =
    let F = c.args.self.now in
    let s = along c.self.inside.docs.now F c.deref.result.now c.self.inside.trees.items c.self.view_is c.deref.ensures.value c.self.invariant.0 in
    λ valid. gone_nowhere F c.deref.result.now s first_place valid c.args.n (sym c.in_default.ensures)

pub returns-clause-gives : goal.returns-clause-gives
returns-clause-gives c =
    let F = c.args.self.now in
    let s = along c.self.inside.docs.now F c.deref.result.now c.self.inside.trees.items c.self.view_is c.deref.ensures.value c.self.invariant.0 in
    λ valid. ap (option_map (node_of_id F)) c.in_document.ensures ∙ gone_here F c.deref.result.now s first_place c.args.n c.in-Some.tree.now c.first.result (sym c.in-Some.ensures) c.first.ensures.gives

pub returns-clause-falls : goal.returns-clause-falls
returns-clause-falls c =
    let F = c.args.self.now in
    let s = along c.self.inside.docs.now F c.deref.result.now c.self.inside.trees.items c.self.view_is c.deref.ensures.value c.self.invariant.0 in
    falls c.args.n c.first.result c.in_document.result c.in_document.ensures c.first.ensures.behind
