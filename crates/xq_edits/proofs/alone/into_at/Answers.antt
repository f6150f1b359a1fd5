use Rattle.std.proofs.Common.{sym, ◌∙◌}
use Rattle.std.specs.FinMap as forests
use Rattle.std.specs.Prelude.{[], Ok}
use Rattle.xml_model.specs.declared.edit.EditKind.{EditKind}
use Rattle.xml_model.specs.declared.edit.EditKind.TheVariants as edit
use Rattle.xml_model.specs.Edits as spec
use Rattle.xml_model.specs.Items.{◌>>?◌}
use Rattle.xml_model.specs.Place.{attrs_of}
use Rattle.xq_edits.specs.Seen.{content_seen}
use Rattle.xq_edits.specs.SharedNames.{into_attributes}
use Rattle.xq_edits.proofs.SharedNames as kinds
use Rattle.xq_nodes.proofs.Answering.{looks_same}
use Rattle.xq_edits.proofs.alone.into_at.Goals as goal

pub returns-in-Element : goal.returns-in-Element
returns-in-Element g c =
    let nav = c.args.nav.now in
    let there = spec.standing_at (forests.get (g.N.Nav.forest nav)) (g.N.Nav.place nav c.args.target) in
    let content = content_seen c.args.content.now in
    looks_same (g.N.Nav.honest nav) (g.N.Nav.passes nav) (λ (what : EditKind). what) c.into_element.result
    (into_attributes (attrs_of there) content) (spec.into content there)
    (λ h. kinds.into_element content c.in_ok-kind_at.field-0 there (c.in_ok-kind_at.ensures.gives h) c.in-Element.is)
    c.into_element.ensures

pub returns-in_default : goal.returns-in_default
returns-in_default g c = λ h.
    let nav = c.args.nav.now in
    let there = spec.standing_at (forests.get (g.N.Nav.forest nav)) (g.N.Nav.place nav c.args.target) in
    kinds.into_other (content_seen c.args.content.now) c.in_ok-kind_at.field-0 there (c.in_ok-kind_at.ensures.gives h)
    c.in_default.not-Document c.in_default.not-Element

pub returns-in_ok-into_document-in-Document : goal.returns-in_ok-into_document-in-Document
returns-in_ok-into_document-in-Document g c = λ h.
    let nav = c.args.nav.now in
    let there = spec.standing_at (forests.get (g.N.Nav.forest nav)) (g.N.Nav.place nav c.args.target) in
    sym (kinds.into_document (content_seen c.args.content.now) c.in_ok-kind_at.field-0 there (c.in_ok-kind_at.ensures.gives h) c.in-Document.is)
    ∙ c.in_ok-into_document-in-Document.ensures

pub returns-in_err-into_document-in-Document : goal.returns-in_err-into_document-in-Document
returns-in_err-into_document-in-Document g c =
    let nav = c.args.nav.now in
    let there = spec.standing_at (forests.get (g.N.Nav.forest nav)) (g.N.Nav.place nav c.args.target) in
    let content = content_seen c.args.content.now in
    kinds.ended_value (g.N.Nav.honest nav) (g.N.Nav.passes nav) (λ (what : EditKind). what) c.from_residual-in_err-into_document-in-Document.result
    c.in_err-into_document-in-Document.field-0.0 (spec.without_attributes content >>? (λ kids. Ok (edit.Into [] kids))) (spec.into content there)
    c.from_residual-in_err-into_document-in-Document.ensures.1
    (λ h. kinds.into_document content c.in_ok-kind_at.field-0 there (c.in_ok-kind_at.ensures.gives h) c.in-Document.is)
    c.in_err-into_document-in-Document.ensures
