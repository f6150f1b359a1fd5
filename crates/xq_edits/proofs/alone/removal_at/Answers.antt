use Rattle.std.proofs.Common.{sym, ap, ◌∙◌}
use Rattle.std.specs.FinMap as forests
use Rattle.std.specs.Prelude.{Ok}
use Rattle.xml_model.specs.Edits.{standing_at}
use Rattle.xq_edits.specs.Seen.{removed}
use Rattle.xq_edits.proofs.TargetKinds.{document_stays, other_goes}
use Rattle.xq_edits.proofs.alone.removal_at.Goals as goal

pub returns-in-Document : goal.returns-in-Document
returns-in-Document g c = λ h.
    let there = standing_at (forests.get (g.N.Nav.forest c.args.nav.now)) (g.N.Nav.place c.args.nav.now c.args.target) in
    document_stays (removed c.args.removal) c.in_ok-kind_at.field-0 there (c.in_ok-kind_at.ensures.gives h) c.in-Document.is

pub returns-in_default : goal.returns-in_default
returns-in_default g c = λ h.
    let there = standing_at (forests.get (g.N.Nav.forest c.args.nav.now)) (g.N.Nav.place c.args.nav.now c.args.target) in
    other_goes (removed c.args.removal) c.in_ok-kind_at.field-0 there (c.in_ok-kind_at.ensures.gives h) c.in_default.not-Document
    ∙ ap Ok (sym c.edit_of.ensures)
