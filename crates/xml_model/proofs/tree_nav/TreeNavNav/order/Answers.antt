use Rattle.std.proofs.Common.{sym, ◌∙◌}
use Rattle.xml_model.proofs.TreeCalls.{along, order_alike, order_apart}
use Rattle.xml_model.proofs.tree_nav.TreeNavNav.order.Goals as goal

pub returns-in-Equal-clause-gives : goal.returns-in-Equal-clause-gives
returns-in-Equal-clause-gives c =
    let s = along c.self.inside.docs.now c.args.self.now c.deref.result.now c.self.inside.trees.items c.self.view_is c.deref.ensures.value c.self.invariant.0 in
    λ valid. c.cmp.ensures ∙ order_alike c.args.self.now c.deref.result.now s c.args.a c.args.b (sym c.names_order.ensures ∙ c.in-Equal.is)

pub returns-in_default-clause-gives : goal.returns-in_default-clause-gives
returns-in_default-clause-gives c =
    let s = along c.self.inside.docs.now c.args.self.now c.deref.result.now c.self.inside.trees.items c.self.view_is c.deref.ensures.value c.self.invariant.0 in
    λ valid. order_apart c.args.self.now c.deref.result.now s c.args.a c.args.b c.names_order.result c.names_order.ensures c.in_default.not-Equal
