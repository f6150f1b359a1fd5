use Rattle.std.proofs.Common.{ℕ, List, Ok, ap, sym, ◌∙◌}
use Rattle.std.specs.FinMap as forests
use Rattle.xml_model.specs.Nodes.{value_at}
use Rattle.xml_model.specs.Axes.{string_of_node}
use Rattle.xml_model.specs.Items.{node_at}
use Rattle.xq_values.specs.Seen.{node_seen, made_seen}
use Rattle.xq_nodes.proofs.Answering.{looks_so, looks_same}
use Rattle.xq_nodes.proofs.Telling.{stored_value_is}
use Rattle.xq_nodes.proofs.values.value_of.Goals as goal

pub returns-in-Stored : goal.returns-in-Stored
returns-in-Stored g c =
    let nav = c.args.nav.now in
    let F = g.N.Nav.forest nav in
    let place = g.N.Nav.place nav in
    let made = made_seen c.args.made.now in
    let node = place c.in-Stored.id in
    looks_same (g.N.Nav.honest nav) (g.N.Nav.passes nav) (λ (s : List ℕ). s) c.stored_value.result (Ok (string_of_node F node)) (Ok (value_at (node_at (forests.get F) made (node_seen place c.args.n.now))))
    (λ h. ap Ok (sym (ap (λ m. value_at (node_at (forests.get F) made (node_seen place m))) c.in-Stored.is ∙ stored_value_is F made node)))
    (looks_so (g.N.Nav.honest nav) (g.N.Nav.passes nav) (λ (s : List ℕ). s) c.stored_value.result (string_of_node F node) c.stored_value.ensures.gives c.stored_value.ensures.fault)
