use Rattle.std.proofs.Common.{◌≡◌, Ok, sym, ap, ◌∙◌}
use Rattle.std.specs.FinMap as forests
use Rattle.xml_model.specs.ItemLines.{placed_lines}
use Rattle.xml_model.specs.Items.{node_at}
use Rattle.xml_model.specs.Nav.{stored_at}
use Rattle.xml_model.specs.Pyx.{Line}
use Rattle.std.proofs.Common.{List}
use Rattle.xq_nodes.proofs.Answering.{looks_same}
use Rattle.xq_values.specs.Seen.{made_seen, node_seen}
use Rattle.xq_functions.proofs.NodeLines.{stored_seen}
use Rattle.xq_functions.proofs.reply.node_lines.Goals as goal

pub returns-in-Stored : goal.returns-in-Stored
returns-in-Stored g c =
    let F = g.N.Nav.forest c.args.nav.now in
    let place = g.N.Nav.place c.args.nav.now in
    let made = made_seen c.args.made.now in
    let e : node_at (forests.get F) made (node_seen place c.args.n.now) ≡ stored_at F (place c.in-Stored.id) =
    ap (λ m. node_at (forests.get F) made (node_seen place m)) c.in-Stored.is ∙ stored_seen F made (place c.in-Stored.id) in
    looks_same (g.N.Nav.honest c.args.nav.now) (g.N.Nav.passes c.args.nav.now) (λ (ls : List Line). ls) c.stored_lines.result
    (Ok (placed_lines (stored_at F (place c.in-Stored.id)))) (Ok (placed_lines (node_at (forests.get F) made (node_seen place c.args.n.now))))
    (λ _. ap (λ o. Ok (placed_lines o)) (sym e)) c.stored_lines.ensures

pub returns-in_ok-made_lines-in-Made : goal.returns-in_ok-made_lines-in-Made
returns-in_ok-made_lines-in-Made g c =
    let F = g.N.Nav.forest c.args.nav.now in
    let place = g.N.Nav.place c.args.nav.now in
    let made = made_seen c.args.made.now in
    λ _. ap (λ ls. Ok ls) (ap (λ m. placed_lines (node_at (forests.get F) made (node_seen place m))) c.in-Made.is ∙ sym c.in_ok-made_lines-in-Made.ensures)
