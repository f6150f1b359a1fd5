use Rattle.std.proofs.Common.{◌∷◌, [], append_assoc, sym}
use Rattle.std.specs.Prelude.{codes}
use Rattle.std.specs.Fmt.{decimal}
use Rattle.byte_edge.proofs.Sent.{sends_as}
use Rattle.script_text.proofs.journals.writing.send_began.Goals as goal

pub returns-in-Updating : goal.returns-in-Updating
returns-in-Updating g c =
    let kind = c.in-Updating.is in
    let session = c.from.ensures in
    sends_as c.send_pieces.result _ _ _ _
    (rw kind (rw session (sym (append_assoc (decimal c.args.session) (codes " began update") (10 ∷ []))))) c.send_pieces.ensures
