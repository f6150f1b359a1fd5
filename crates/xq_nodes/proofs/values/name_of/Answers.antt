use Rattle.std.proofs.Common.{ℕ, List, Ok, ap, sym, ◌∙◌}
use Rattle.std.specs.FinMap as forests
use Rattle.xml_model.specs.FunctionAnswers.{name_at}
use Rattle.xml_model.specs.Nav.{stored_at, told_at}
use Rattle.xml_model.specs.Items.{node_at}
use Rattle.xq_values.specs.Seen.{node_seen, made_seen}
use Rattle.xq_nodes.proofs.Answering.{looks_so, looks_same}
use Rattle.xq_nodes.proofs.Telling.{stored_name_is}
use Rattle.xq_nodes.proofs.values.name_of.Goals as goal

pub returns-in-Stored : goal.returns-in-Stored
returns-in-Stored g c =
    let nav = c.args.nav.now in
    let F = g.N.Nav.forest nav in
    let place = g.N.Nav.place nav in
    let made = made_seen c.args.made.now in
    let node = place c.in-Stored.id in
    looks_same (g.N.Nav.honest nav) (g.N.Nav.passes nav) (λ (s : List ℕ). s) c.stored_name.result (Ok ((told_at (stored_at F node)).name)) (Ok (name_at (node_at (forests.get F) made (node_seen place c.args.n.now))))
    (λ h. ap Ok (sym (ap (λ m. name_at (node_at (forests.get F) made (node_seen place m))) c.in-Stored.is ∙ stored_name_is F made node)))
    (looks_so (g.N.Nav.honest nav) (g.N.Nav.passes nav) (λ (s : List ℕ). s) c.stored_name.result ((told_at (stored_at F node)).name) c.stored_name.ensures.gives c.stored_name.ensures.fault)
