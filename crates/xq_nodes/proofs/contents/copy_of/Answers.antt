use Rattle.std.proofs.Common.{ap, sym, ◌∙◌}
use Rattle.std.specs.FinMap as forests
use Rattle.xml_model.specs.Constructors.{pieces_of}
use Rattle.xml_model.specs.Items.{node_at}
use Rattle.xq_values.specs.Seen.{node_seen, made_seen}
use Rattle.xq_nodes.specs.Copies.{standing_at}
use Rattle.xq_nodes.proofs.Telling.{stored_pieces_are, copied_pieces}
use Rattle.xq_nodes.proofs.contents.copy_of.Goals as goal

pub returns-in-Stored-clause-gives : goal.returns-in-Stored-clause-gives
returns-in-Stored-clause-gives g c =
    let nav = c.args.nav.now in
    let F = g.N.Nav.forest nav in
    let place = g.N.Nav.place nav in
    let made = made_seen c.args.made.now in
    let node = place c.in-Stored.id in
    copied_pieces (g.N.Nav.honest nav) c.copy_stored.result (standing_at F node) (node_at (forests.get F) made (node_seen place c.args.n.now))
    (stored_pieces_are F made node ∙ sym (ap (λ m. pieces_of (node_at (forests.get F) made (node_seen place m))) c.in-Stored.is)) c.copy_stored.ensures.gives
