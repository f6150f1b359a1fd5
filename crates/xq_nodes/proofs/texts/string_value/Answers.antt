use Rattle.std.proofs.Common.{ap}
use Rattle.xml_model.specs.Axes.{string_of_node}
use Rattle.xq_nodes.specs.Walks.{below_text, is_whole}
use Rattle.xq_nodes.proofs.StringValues.{string_whole, answered}
use Rattle.xq_nodes.proofs.texts.string_value.Goals as goal

pub returns-in-Document-clause-gives : goal.returns-in-Document-clause-gives
returns-in-Document-clause-gives g c =
    let F = g.N.Nav.forest c.args.nav.now in
    let node = g.N.Nav.place c.args.nav.now c.args.n in
    answered (g.N.Nav.honest c.args.nav.now) c.texts_below.result (below_text F node) (string_of_node F node)
    (λ h. string_whole F node c.in_ok-kind_of.field-0 (c.in_ok-kind_of.ensures.gives h) (ap is_whole c.in-Document.is)) c.texts_below.ensures.gives

pub returns-in-Element-clause-gives : goal.returns-in-Element-clause-gives
returns-in-Element-clause-gives g c =
    let F = g.N.Nav.forest c.args.nav.now in
    let node = g.N.Nav.place c.args.nav.now c.args.n in
    answered (g.N.Nav.honest c.args.nav.now) c.texts_below-in-Element.result (below_text F node) (string_of_node F node)
    (λ h. string_whole F node c.in_ok-kind_of.field-0 (c.in_ok-kind_of.ensures.gives h) (ap is_whole c.in-Element.is)) c.texts_below-in-Element.ensures.gives
