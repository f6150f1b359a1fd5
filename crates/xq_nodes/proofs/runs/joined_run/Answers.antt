use Rattle.std.proofs.Common.{map, sym, ap, subst, ◌∙◌}
use Rattle.xml_model.specs.Nodes.{node_cmp}
use Rattle.xq_values.specs.Seen.{node_seen}
use Rattle.xq_nodes.specs.Joins.{Rises}
use Rattle.xq_nodes.proofs.Joins.{follows}
use Rattle.xq_nodes.proofs.runs.joined_run.Goals as goal

pub returns-then-branch-clause-gives : goal.returns-then-branch-clause-gives
returns-then-branch-clause-gives g c = λ h m n.
    let seen = node_seen (g.N.Nav.place c.args.nav.now) in
    let ends = c.in_ok-goes_before.ensures.gives h c.if-branch.true in
    ap (map seen) c.in_ok-appended.ensures ∙ (follows seen c.args.a.nodes c.args.b.nodes ends.2 (m ends.0) (n ends.1)).0

pub returns-then-branch-clause-marked : goal.returns-then-branch-clause-marked
returns-then-branch-clause-marked g c = λ h m n t.
    let seen = node_seen (g.N.Nav.place c.args.nav.now) in
    let ends = c.in_ok-goes_before.ensures.gives h c.if-branch.true in
    subst (Rises node_cmp) (sym (ap (map seen) c.in_ok-appended.ensures)) (follows seen c.args.a.nodes c.args.b.nodes ends.2 (m ends.0) (n ends.1)).1
