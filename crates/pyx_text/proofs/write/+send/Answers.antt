use Rattle.std.proofs.Common.{rules, ◌∷◌, [], ◌++◌, map}
use Rattle.xml_model.specs.Pyx.{attribute_line, pyx_node, pyx_of, text_of}
use Rattle.pyx_text.proofs.LineText.{attributes_text, nodes_text, nodes_text-append, nodes_text-one, element_text}
use Rattle.byte_edge.proofs.Sent.{failed, broke_before, broke_then, broke_as, sends_as, sends_then, sent_none, sent_next, broke_next}
use Rattle.pyx_text.proofs.write.+send.Goals as goal

pub send_element-returns : goal.send_element-returns
send_element-returns g k c =
    sends_as c.send_tag-2.result _ _ _ _
    (element_text (40 ∷ c.args.name.now) (map attribute_line c.args.attrs.now) (pyx_of c.args.kids.now) (41 ∷ c.args.name.now))
    (sends_then c.send_tag-2.result _ _ c.in_ok-send_tag.ensures
    (sends_then c.send_tag-2.result _ _ c.in_ok-send_attributes.ensures (sends_then c.send_tag-2.result _ _ c.in_ok-send_nodes.ensures c.send_tag-2.ensures)))

pub send_element-returns-in_err-send_tag : goal.send_element-returns-in_err-send_tag
send_element-returns-in_err-send_tag g k c =
    failed c.from_residual.result c.from_residual.ensures.0
    (broke_as _ _ (element_text (40 ∷ c.args.name.now) (map attribute_line c.args.attrs.now) (pyx_of c.args.kids.now) (41 ∷ c.args.name.now))
    (broke_before (attributes_text c.args.attrs.now ++ (nodes_text c.args.kids.now ++ text_of ((41 ∷ c.args.name.now) ∷ []))) c.in_err-send_tag.ensures))

pub send_element-returns-in_err-send_attributes : goal.send_element-returns-in_err-send_attributes
send_element-returns-in_err-send_attributes g k c =
    failed c.from_residual-in_err-send_attributes.result c.from_residual-in_err-send_attributes.ensures.0
    (broke_as _ _ (element_text (40 ∷ c.args.name.now) (map attribute_line c.args.attrs.now) (pyx_of c.args.kids.now) (41 ∷ c.args.name.now))
    (broke_then c.in_ok-send_tag.ensures (broke_before (nodes_text c.args.kids.now ++ text_of ((41 ∷ c.args.name.now) ∷ [])) c.in_err-send_attributes.ensures)))

pub send_element-returns-in_err-send_nodes : goal.send_element-returns-in_err-send_nodes
send_element-returns-in_err-send_nodes g k c =
    failed c.from_residual-in_err-send_nodes.result c.from_residual-in_err-send_nodes.ensures.0
    (broke_as _ _ (element_text (40 ∷ c.args.name.now) (map attribute_line c.args.attrs.now) (pyx_of c.args.kids.now) (41 ∷ c.args.name.now))
    (broke_then c.in_ok-send_tag.ensures
    (broke_then c.in_ok-send_attributes.ensures (broke_before (text_of ((41 ∷ c.args.name.now) ∷ [])) c.in_err-send_nodes.ensures))))

pub send_nodes-loop-node-preserved : goal.send_nodes-loop-node-preserved
send_nodes-loop-node-preserved g k c =
    sent_next nodes_text (λ n. text_of (pyx_node n)) nodes_text-append nodes_text-one c.args.nodes.now c.loop-node.node-index c.node-item.result
    c.node-item.result (search rules) (search rules)
    c.loop-node.invariant c.in_ok-send_node.ensures

pub send_nodes-returns-in_err-send_node : goal.send_nodes-returns-in_err-send_node
send_nodes-returns-in_err-send_node g k c =
    failed c.from_residual.result c.from_residual.ensures.0
    (broke_next nodes_text (λ n. text_of (pyx_node n)) nodes_text-append nodes_text-one c.args.nodes.now c.loop-node.node-index c.node-item.result
    c.node-item.result (search rules) (search rules)
    c.loop-node.invariant c.in_err-send_node.ensures)

pub send_nodes-loop-node-init : goal.send_nodes-loop-node-init
send_nodes-loop-node-init g k c = sent_none _
