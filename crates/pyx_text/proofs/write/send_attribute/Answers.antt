use Rattle.std.proofs.Common.{◌++◌, ◌∷◌, []}
use Rattle.xml_model.specs.Values.{escaped}
use Rattle.pyx_text.proofs.LineText.{marked_line}
use Rattle.byte_edge.proofs.Sent.{failed, broke_before, broke_as, sends_as, sends_then}
use Rattle.pyx_text.proofs.write.send_attribute.Goals as goal

pub returns-in_err-send_mark : goal.returns-in_err-send_mark
returns-in_err-send_mark g c =
    failed c.from_residual.result c.from_residual.ensures.0
    (broke_as _ _ (marked_line 65 c.args.attr.now.name (32 ∷ escaped c.args.attr.now.value))
    (broke_before ((32 ∷ escaped c.args.attr.now.value) ++ 10 ∷ []) c.in_err-send_mark.ensures))

pub returns : goal.returns
returns g c =
    sends_as c.send_rest.result _ _ _ _ (marked_line 65 c.args.attr.now.name (32 ∷ escaped c.args.attr.now.value))
    (sends_then c.send_rest.result ((32 ∷ escaped c.args.attr.now.value) ++ 10 ∷ []) _ c.in_ok-send_mark.ensures c.send_rest.ensures)
