use Rattle.std.proofs.Common.{refl, rules, ◌∷◌, []}
use Rattle.xml_model.specs.Pyx.{attribute_line, text_of}
use Rattle.pyx_text.proofs.LineText.{attributes_text, attributes_text-append}
use Rattle.byte_edge.proofs.Sent.{failed, sent_next, broke_next}
use Rattle.pyx_text.proofs.write.send_attributes.Goals as goal

pub returns-in_err-send_attribute : goal.returns-in_err-send_attribute
returns-in_err-send_attribute g c =
    failed c.from_residual.result c.from_residual.ensures.0
    (broke_next attributes_text (λ a. text_of (attribute_line a ∷ [])) attributes_text-append
    (λ a. refl) c.args.attrs.now c.loop-attr.attr-index c.attr-item.result c.attr-item.result (search rules) (search rules)
    c.loop-attr.invariant c.in_err-send_attribute.ensures)

pub loop-attr-preserved : goal.loop-attr-preserved
loop-attr-preserved g c =
    sent_next attributes_text (λ a. text_of (attribute_line a ∷ [])) attributes_text-append
    (λ a. refl) c.args.attrs.now c.loop-attr.attr-index c.attr-item.result c.attr-item.result (search rules) (search rules)
    c.loop-attr.invariant c.in_ok-send_attribute.ensures
