use Rattle.std.proofs.Common.{map, ap, ◌∙◌}
use Rattle.std.specs.List.{filter_map}
use Rattle.xml_model.specs.Edits.{stored_nodes}
use Rattle.xq_edits.specs.Targets.{stored_id}
use Rattle.xq_edits.proofs.StoredTargets.{found, ended}
use Rattle.xq_values.specs.Seen.{item_seen}
use Rattle.xq_edits.proofs.targets.targets_of.Goals as goal

pub returns : goal.returns
returns g c = λ h.
    let place = g.N.Nav.place c.args.nav.now in
    found place (stored_nodes (map (item_seen place) c.args.items.now)) c.in_ok-nodes.nodes c.in_ok-ordered.ordered c.in_ok-stored_ids.field-0
    (c.in_ok-nodes.ensures place) (c.in_ok-ordered.ensures h) (c.in_ok-stored_ids.ensures ∙ ap (filter_map stored_id) c.as_slice.ensures)

pub returns-in_err-nodes : goal.returns-in_err-nodes
returns-in_err-nodes g c =
    let nav = c.args.nav.now in
    let place = g.N.Nav.place nav in
    ended (g.N.Nav.honest nav) (g.N.Nav.passes nav) place c.args.items.now c.in_err-nodes.field-0.0
    c.from_residual.result c.from_residual.ensures.1 (c.in_err-nodes.ensures place)
