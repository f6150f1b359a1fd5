use Rattle.xq_edits.proofs.SharedNames.{attribute_told, other_told}
use Rattle.xq_edits.proofs.standing.attribute_name.Goals as goal

pub returns-in_ok-name_of-in-Attribute-clause-gives : goal.returns-in_ok-name_of-in-Attribute-clause-gives
returns-in_ok-name_of-in-Attribute-clause-gives g c = λ h.
    let F = g.N.Nav.forest c.args.nav.now in
    attribute_told F (g.N.Nav.place c.args.nav.now c.args.n) c.in_ok-kind_at.field-0 c.in_ok-name_of-in-Attribute.field-0
    (c.in_ok-kind_at.ensures.gives h) c.in-Attribute.is (c.in_ok-name_of-in-Attribute.ensures.gives h)

pub returns-in_default-clause-gives : goal.returns-in_default-clause-gives
returns-in_default-clause-gives g c = λ h.
    let F = g.N.Nav.forest c.args.nav.now in
    other_told F (g.N.Nav.place c.args.nav.now c.args.n) c.in_ok-kind_at.field-0 (c.in_ok-kind_at.ensures.gives h) c.in_default.not-Attribute
