use Rattle.std.proofs.Common.{◌∙◌, map, ap, arith}
use Rattle.xml_model.specs.Axes.{held_nodes}
use Rattle.xq_nodes.specs.Walks.{is_attribute}
use Rattle.xq_nodes.proofs.Parts.{parts, finish}
use Rattle.xq_nodes.proofs.walks.attributes.Goals as goal

pub returns-clause-gives : goal.returns-clause-gives
returns-clause-gives g c = λ h.
    let F = g.N.Nav.forest c.args.nav.now in
    let place = g.N.Nav.place c.args.nav.now in
    let node = place c.args.n in
    finish place (is_attribute F) c.loop-m.all c.as_slice-m-items.result.now c.loop-m.m-index (held_nodes F node) (omega arith) (c.loop-m.invariant h)
    (ap (map place) c.as_slice-m-items.ensures ∙ c.in_ok-nodes.ensures.gives h)
    ∙ (parts F node).0
