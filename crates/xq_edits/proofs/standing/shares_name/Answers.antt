use Rattle.std.specs.FinMap as forests
use Rattle.xml_model.specs.Edits.{standing_at}
use Rattle.xml_model.specs.Place.{attrs_of}
use Rattle.xq_edits.specs.SharedNames.{share_name}
use Rattle.xq_edits.proofs.SharedNames.{shared_first, shared_last, shared_here, shared_later, shared_no_more}
use Rattle.xq_edits.proofs.standing.shares_name.Goals as goal

pub loop-at-init : goal.loop-at-init
loop-at-init g c = λ h.
    let F = g.N.Nav.forest c.args.nav.now in
    let place = g.N.Nav.place c.args.nav.now in
    shared_first c.args.attrs.now F place (place c.args.n) c.in_ok-at.at (c.in_ok-at.ensures.gives h)

pub loop-at-preserved : goal.loop-at-preserved
loop-at-preserved g c = λ h.
    let F = g.N.Nav.forest c.args.nav.now in
    let place = g.N.Nav.place c.args.nav.now in
    let attrs = c.args.attrs.now in
    let whole = share_name (attrs_of (standing_at (forests.get F) (place c.args.n))) attrs in
    shared_later attrs F place c.in-Some.m c.loop-at.at c.in-Some.is whole (c.loop-at.invariant h) c.in_ok-name.field-0 (c.in_ok-name.ensures.gives h)
    c.in-Some-2.name c.as_str.result.now c.has_attribute.result c.in-Some-2.is c.as_str.ensures c.has_attribute.ensures
    c.in_ok-at-2.at c.if-has_attribute.false (c.in_ok-at-2.ensures.gives h)

pub returns-in_default-2-clause-gives : goal.returns-in_default-2-clause-gives
returns-in_default-2-clause-gives g c = λ h.
    let F = g.N.Nav.forest c.args.nav.now in
    let place = g.N.Nav.place c.args.nav.now in
    let attrs = c.args.attrs.now in
    let whole = share_name (attrs_of (standing_at (forests.get F) (place c.args.n))) attrs in
    shared_no_more attrs F place c.in-Some.m c.loop-at.at c.in-Some.is whole (c.loop-at.invariant h) c.in_ok-name.field-0 (c.in_ok-name.ensures.gives h)
    c.in_default-2.is

pub returns-then-has_attribute-clause-gives : goal.returns-then-has_attribute-clause-gives
returns-then-has_attribute-clause-gives g c = λ h.
    let F = g.N.Nav.forest c.args.nav.now in
    let place = g.N.Nav.place c.args.nav.now in
    let attrs = c.args.attrs.now in
    let whole = share_name (attrs_of (standing_at (forests.get F) (place c.args.n))) attrs in
    shared_here attrs F place c.in-Some.m c.loop-at.at c.in-Some.is whole (c.loop-at.invariant h) c.in_ok-name.field-0 (c.in_ok-name.ensures.gives h)
    c.in-Some-2.name c.as_str.result.now c.has_attribute.result c.in-Some-2.is c.as_str.ensures c.has_attribute.ensures c.if-has_attribute.true

pub returns-clause-gives : goal.returns-clause-gives
returns-clause-gives g c = λ h.
    let F = g.N.Nav.forest c.args.nav.now in
    let place = g.N.Nav.place c.args.nav.now in
    let attrs = c.args.attrs.now in
    let whole = share_name (attrs_of (standing_at (forests.get F) (place c.args.n))) attrs in
    shared_last attrs F place c.loop-at.at whole c.in_default.is (c.loop-at.invariant h)
