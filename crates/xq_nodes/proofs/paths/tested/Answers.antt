use Rattle.std.proofs.Common.{Ok, map, ap, sym, ◌∙◌}
use Rattle.std.specs.FinMap as forests
use Rattle.xml_model.specs.Nodes as nodes
use Rattle.xq_values.specs.Seen.{node_seen, made_seen}
use Rattle.xq_nodes.proofs.MadeAxes.{made_tested}
use Rattle.xq_nodes.proofs.Stepping.{as_node, stored_tested, ids_seen}
use Rattle.xq_nodes.proofs.paths.tested.Goals as goal

pub returns-in_ok-all-in-Stored : goal.returns-in_ok-all-in-Stored
returns-in_ok-all-in-Stored g c = λ h.
    let nav = c.args.nav.now in
    let F = g.N.Nav.forest nav in
    let place = g.N.Nav.place nav in
    let made = made_seen c.args.made.now in
    let node = place c.in-Stored.id in
    let ids = c.in_ok-ids-in-Stored.ids in
    ap Ok (ap (λ m. nodes.tested (forests.get F) made c.args.axis c.args.test.now (node_seen place m)) c.in-Stored.is
    ∙ (stored_tested F node made c.args.axis c.args.test.now
    ∙ sym (ap (map (node_seen place)) c.in_ok-all-in-Stored.ensures ∙ (ids_seen place ids ∙ ap (map as_node) (c.in_ok-ids-in-Stored.ensures.gives h)))))

pub returns-in_ok-all-in-Made : goal.returns-in_ok-all-in-Made
returns-in_ok-all-in-Made g c = λ h.
    let nav = c.args.nav.now in
    let docs = forests.get (g.N.Nav.forest nav) in
    let place = g.N.Nav.place nav in
    let made = made_seen c.args.made.now in
    ap Ok (ap (λ m. nodes.tested docs made c.args.axis c.args.test.now (node_seen place m)) c.in-Made.is
    ∙ sym (ap (map (node_seen place)) c.in_ok-all-in-Made.ensures ∙ made_tested docs made c.args.test.now c.in-Made.at.tree place c.args.axis c.in-Made.at.place))
