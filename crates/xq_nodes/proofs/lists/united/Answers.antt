use Rattle.std.proofs.Common.{map}
use Rattle.xml_model.specs.DocumentOrder.{union}
use Rattle.xml_model.specs.Nodes.{node_cmp}
use Rattle.xq_values.specs.Seen.{node_seen}
use Rattle.xq_nodes.proofs.Answering.{looks_so}
use Rattle.xq_nodes.proofs.lists.united.Goals as goal

pub returns : goal.returns
returns g c =
    let nav = c.args.nav.now in
    let seen = node_seen (g.N.Nav.place nav) in
    looks_so (g.N.Nav.honest nav) (g.N.Nav.passes nav) (map seen) c.united_lists.result (union node_cmp (map seen c.args.left) (map seen c.args.right)) c.united_lists.ensures.gives c.united_lists.ensures.fault
