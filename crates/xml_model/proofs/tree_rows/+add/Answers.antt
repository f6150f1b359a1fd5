use Rattle.std.proofs.Common.{◌-◌, ◌∙◌, vec_len, ap, arith}
use Rattle.xml_model.specs.declared.tree_rows.PlacedRef.TheVariants as placed_ref
use Rattle.xml_model.specs.Nav.{told_of}
use Rattle.xml_model.specs.Place.{a_node}
use Rattle.xml_model.proofs.Building.{element_added, text_added, instruction_added}
use Rattle.xml_model.proofs.Numbers.{length-all_kid_rows}
use Rattle.xml_model.proofs.tree_rows.+add.Goals as goal

pub add_node-returns-in_ok-add_kids-in-Element-clause-rows :
    goal.add_node-returns-in_ok-add_kids-in-Element-clause-rows
add_node-returns-in_ok-add_kids-in-Element-clause-rows t c =
    let at = c.len-at.result in
    let back = at - c.args.parent in
    let told = told_of (a_node c.args.node.now) in
    let kids = c.in-Element.kids in
    let m = vec_len c.add_attrs.new.rows - at in
    element_added c.args.rows.now.items c.push.new.self.items c.add_attrs.new.rows.items c.add_kids.new.rows.items
    (record { it = placed_ref.Node c.args.node; back = back; size = 1 }) (record { it = placed_ref.Node c.args.node; back = back; size = c.len.result - at })
    c.in-Element.name c.in-Element.attrs kids c.args.node.now at m (vec_len c.args.rows.now - c.args.parent)
    c.in-Element.is (omega arith) c.in_ok-push.ensures.items (omega (arith, c.in_ok-add_attrs-in-Element.ensures.len, c.in_ok-push.ensures.len)) c.in_ok-add_attrs-in-Element.ensures.rows c.in_ok-add_kids-in-Element.ensures.rows
    (ap (λ n. record { told = told; back = n - c.args.parent; size = c.len.result - at }) c.len-at.ensures
    ∙ ap (λ n. record { told = told; back = vec_len c.args.rows.now - c.args.parent; size = n })
    (omega (arith, length-all_kid_rows kids m, c.in_ok-add_kids-in-Element.ensures.len, c.in_ok-add_attrs-in-Element.ensures.len, c.in_ok-push.ensures.len)))

pub add_node-returns-in-Text-clause-rows : goal.add_node-returns-in-Text-clause-rows
add_node-returns-in-Text-clause-rows t c =
    let told = told_of (a_node c.args.node.now) in
    text_added c.args.rows.now.items c.push.new.self.items (record { it = placed_ref.Node c.args.node; back = c.len-at.result - c.args.parent; size = 1 })
    c.in-Text.value c.args.node.now (vec_len c.args.rows.now - c.args.parent) c.in-Text.is c.in_ok-push.ensures.items
    (ap (λ n. record { told = told; back = n - c.args.parent; size = 1 }) c.len-at.ensures)

pub add_node-returns-in-Pi-clause-rows : goal.add_node-returns-in-Pi-clause-rows
add_node-returns-in-Pi-clause-rows t c =
    let told = told_of (a_node c.args.node.now) in
    instruction_added c.args.rows.now.items c.push.new.self.items (record { it = placed_ref.Node c.args.node; back = c.len-at.result - c.args.parent; size = 1 })
    c.in-Pi.target c.in-Pi.value c.args.node.now (vec_len c.args.rows.now - c.args.parent) c.in-Pi.is c.in_ok-push.ensures.items
    (ap (λ n. record { told = told; back = n - c.args.parent; size = 1 }) c.len-at.ensures)
