use Rattle.xml_model.specs.Nodes.{node_cmp}
use Rattle.xq_values.specs.Seen.{node_seen}
use Rattle.std.specs.declared.cmp.Ordering.{Ordering}
use Rattle.xq_nodes.proofs.Answering.{looks_so}
use Rattle.xq_nodes.proofs.order.node_order.Goals as goal

pub returns : goal.returns
returns g c =
    let nav = c.args.nav.now in
    looks_so (g.N.Nav.honest nav) (g.N.Nav.passes nav) (λ (o : Ordering). o) c.order_of_nodes.result (node_cmp (node_seen (g.N.Nav.place nav) c.args.a.now) (node_seen (g.N.Nav.place nav) c.args.b.now))
    c.order_of_nodes.ensures.gives c.order_of_nodes.ensures.fault
