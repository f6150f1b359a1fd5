use Rattle.std.proofs.Common.{map, arith}
use Rattle.xml_model.specs.DocumentOrder.{node_cmp, union}
use Rattle.xq_nodes.proofs.Unions.{finish_right}
use Rattle.xq_nodes.proofs.merging.merge.Goals as goal

pub returns-in_default-right-clause-gives : goal.returns-in_default-right-clause-gives
returns-in_default-right-clause-gives g c =
    let f = g.N.Nav.place c.args.nav.now in
    λ h. finish_right node_cmp f c.loop-left.all c.loop-left.left.now c.loop-left.right.now c.add_all.new.all
    (union node_cmp (map f c.args.a.now) (map f c.args.b.now)) (omega arith) (c.loop-left.invariant h) c.in_ok-add_all.ensures
