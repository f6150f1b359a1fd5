use Rattle.std.proofs.Common.{map, sym, subst}
use Rattle.xml_model.specs.Nodes.{node_cmp}
use Rattle.xq_values.specs.Seen.{node_seen}
use Rattle.xq_nodes.specs.Joins.{Rises}
use Rattle.xq_nodes.proofs.Unions.{in_order_rises}
use Rattle.xq_nodes.proofs.lists.ordered.Goals as goal

pub returns-then-branch-clause-gives : goal.returns-then-branch-clause-gives
returns-then-branch-clause-gives g c = λ h.
    let seen = node_seen (g.N.Nav.place c.args.nav.now) in
    sym (in_order_rises node_cmp (map seen c.args.nodes) (subst (λ l. Rises node_cmp (map seen l)) c.as_slice.ensures (c.in_ok-rises.ensures.gives h c.if-branch.true)))
