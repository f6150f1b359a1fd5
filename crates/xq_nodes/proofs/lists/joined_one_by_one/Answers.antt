use Rattle.std.proofs.Common.{map, ap, ◌∙◌, arith}
use Rattle.xml_model.specs.DocumentOrder.{union, in_order}
use Rattle.xml_model.specs.Nodes.{node_cmp}
use Rattle.xq_values.specs.Seen.{node_seen}
use Rattle.xq_nodes.specs.Joins.{joined_seen}
use Rattle.xq_nodes.proofs.Joins.{one_on, one_end}
use Rattle.xq_nodes.proofs.lists.joined_one_by_one.Goals as goal

pub each-init : goal.each-init
each-init g c = λ h.
    let place = g.N.Nav.place c.args.nav.now in (
      c.new-joining.ensures.right place,
      ap (λ l. union node_cmp l (in_order node_cmp (map (node_seen place) c.from_vec-left.result.items))) (c.new-joining.ensures.none place),
    )

pub each-preserved : goal.each-preserved
each-preserved g c = λ h.
    let seen = node_seen (g.N.Nav.place c.args.nav.now) in
    let before = c.each.invariant h in
    let joined = joined_seen seen c.each.joining in (
      c.in_ok-push.ensures.right h before.0,
      one_on seen joined (joined_seen seen c.push.new.self) c.each.left.items c.pop_front.new.self.items c.in-Some.node (in_order node_cmp (map seen c.from_vec-left.result.items)) c.in-Some.ensures.items
          (c.in_ok-push.ensures.joined h before.0 ∙ ap (λ l. union node_cmp joined (map seen l)) c.in_ok-one.ensures) before.1,
    )

pub returns-clause-gives : goal.returns-clause-gives
returns-clause-gives g c = λ h.
    let seen = node_seen (g.N.Nav.place c.args.nav.now) in
    let before = c.each.invariant h in
    c.in_ok-all.ensures.joined h before.0
    ∙ (one_end seen (joined_seen seen c.each.joining) c.each.left.items (in_order node_cmp (map seen c.from_vec-left.result.items)) (omega (arith, c.in_default.ensures.cases.0)) before.1
    ∙ ap (λ l. in_order node_cmp (map seen l)) (c.from_vec-left.ensures.items ∙ c.into_vec.ensures))
