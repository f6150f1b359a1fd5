use Rattle.std.proofs.Common.{◌++◌, [], ◌∷◌}
use Rattle.std.specs.Prelude.{codes}
use Rattle.script_text.specs.JournalText.{needs_text}
use Rattle.script_text.proofs.EventText.{line_parts}
use Rattle.byte_edge.proofs.Sent.{failed, broke_as, broke_before, broke_then, sends_as, sends_then}
use Rattle.script_text.proofs.journals.writing.send_granted.Goals as goal

pub returns-in_err-send_pieces : goal.returns-in_err-send_pieces
returns-in_err-send_pieces g c =
    failed c.from_residual.result c.from_residual.ensures.0
    (broke_as _ _ (line_parts c.from.result c.args.session (codes " granted ") (needs_text c.args.needs.now) c.from.ensures)
    (broke_before (needs_text c.args.needs.now ++ 10 ∷ []) c.in_err-send_pieces.ensures))

pub returns-in_err-send_needs : goal.returns-in_err-send_needs
returns-in_err-send_needs g c =
    failed c.from_residual-in_err-send_needs.result c.from_residual-in_err-send_needs.ensures.0
    (broke_as _ _ (line_parts c.from.result c.args.session (codes " granted ") (needs_text c.args.needs.now) c.from.ensures)
    (broke_then c.in_ok-send_pieces.ensures (broke_before (10 ∷ []) c.in_err-send_needs.ensures)))

pub returns : goal.returns
returns g c =
    sends_as c.send_byte.result _ _ _ _ (line_parts c.from.result c.args.session (codes " granted ") (needs_text c.args.needs.now) c.from.ensures)
    (sends_then c.send_byte.result _ _ c.in_ok-send_pieces.ensures (sends_then c.send_byte.result (10 ∷ []) _ c.in_ok-send_needs.ensures c.send_byte.ensures))
