use Rattle.std.proofs.Common.{rules, refl, ◌∷◌, []}
use Rattle.xml_model.specs.Pyx.{text_of}
use Rattle.script_text.proofs.EventText.{text_of-append}
use Rattle.byte_edge.proofs.Sent.{failed, sent_none, sent_next, broke_next}
use Rattle.script_text.proofs.journals.writing.send_lines.Goals as goal

pub loop-line-init : goal.loop-line-init
loop-line-init g c = sent_none _

pub returns-in_err-send_line : goal.returns-in_err-send_line
returns-in_err-send_line g c =
    failed c.from_residual.result c.from_residual.ensures.0
    (broke_next text_of (λ l. text_of (l ∷ [])) text_of-append (λ l. refl) c.args.lines.now c.loop-line.line-index c.line-item.result c.line-item.result
    (search rules) (search rules)
    c.loop-line.invariant c.in_err-send_line.ensures)

pub loop-line-preserved : goal.loop-line-preserved
loop-line-preserved g c =
    sent_next text_of (λ l. text_of (l ∷ [])) text_of-append (λ l. refl) c.args.lines.now c.loop-line.line-index c.line-item.result c.line-item.result
    (search rules) (search rules)
    c.loop-line.invariant c.in_ok-send_line.ensures
