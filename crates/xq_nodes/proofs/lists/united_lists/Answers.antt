use Rattle.std.proofs.Common.{map, ◌∙◌, arith}
use Rattle.xml_model.specs.DocumentOrder.{union}
use Rattle.xml_model.specs.Nodes.{node_cmp}
use Rattle.xq_values.specs.Seen.{node_seen}
use Rattle.xq_nodes.proofs.Unions.{begun, finish_both}
use Rattle.xq_nodes.proofs.lists.united_lists.Goals as goal

pub returns-clause-gives : goal.returns-clause-gives
returns-clause-gives g c = λ h.
    let seen = node_seen (g.N.Nav.place c.args.nav.now) in
    let start = begun node_cmp seen c.new-all.result c.from_vec-left.result.items c.from_vec-right.result.items c.args.left c.args.right c.new-all.ensures (c.from_vec-left.ensures.items ∙ c.into_vec.ensures)
    (c.from_vec-right.ensures.items ∙ c.into_vec-2.ensures) in
    finish_both node_cmp seen c.both.all c.both.left.items c.both.right.items c.move_all.new.all c.move_all-2.new.all
    (union node_cmp (map seen c.args.left) (map seen c.args.right)) (omega arith) (c.both.invariant h ∙ start) c.in_ok-move_all.ensures c.in_ok-move_all-2.ensures
