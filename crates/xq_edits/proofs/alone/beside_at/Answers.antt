use Rattle.std.proofs.Common.{sym, ap, ◌∙◌}
use Rattle.std.specs.FinMap as forests
use Rattle.std.specs.Prelude.{Ok}
use Rattle.xml_model.specs.Edits.{standing_at}
use Rattle.xq_edits.specs.Seen.{put}
use Rattle.xq_edits.proofs.TargetKinds.{beside_document, beside_attribute, beside_child}
use Rattle.xq_edits.proofs.alone.beside_at.Goals as goal

pub returns-in-Document : goal.returns-in-Document
returns-in-Document g c = λ h.
    let there = standing_at (forests.get (g.N.Nav.forest c.args.nav.now)) (g.N.Nav.place c.args.nav.now c.args.target) in
    beside_document (put c.args.side c.args.kids.now) c.in_ok-kind_at.field-0 there (c.in_ok-kind_at.ensures.gives h) c.in-Document.is

pub returns-in-Attribute : goal.returns-in-Attribute
returns-in-Attribute g c = λ h.
    let there = standing_at (forests.get (g.N.Nav.forest c.args.nav.now)) (g.N.Nav.place c.args.nav.now c.args.target) in
    beside_attribute (put c.args.side c.args.kids.now) c.in_ok-kind_at.field-0 there (c.in_ok-kind_at.ensures.gives h) c.in-Attribute.is

pub returns-in_ok-put_on-in_default : goal.returns-in_ok-put_on-in_default
returns-in_ok-put_on-in_default g c = λ h.
    let there = standing_at (forests.get (g.N.Nav.forest c.args.nav.now)) (g.N.Nav.place c.args.nav.now c.args.target) in
    beside_child (put c.args.side c.args.kids.now) c.in_ok-kind_at.field-0 there (c.in_ok-kind_at.ensures.gives h) c.in_default.not-Document
    c.in_default.not-Attribute
    ∙ ap Ok (sym c.in_ok-put_on-in_default.ensures)
