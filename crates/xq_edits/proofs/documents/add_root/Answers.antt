use Rattle.xq_edits.proofs.Groups.{root_added}
use Rattle.xq_edits.proofs.documents.add_root.Goals as goal

pub returns-in_ok-push-in-Some-clause-nodes : goal.returns-in_ok-push-in-Some-clause-nodes
returns-in_ok-push-in-Some-clause-nodes g c = λ h are.
    let nav = c.args.nav.now in
    root_added (g.N.Nav.forest nav) (g.N.Nav.place nav) c.args.roots.now c.push.new.self c.in-Some.node c.in_ok-name-in-Some.name c.args.name.now
    c.in_ok-node.field-0 c.in-Some.is (c.in_ok-node.ensures.gives h) c.in_ok-name-in-Some.ensures c.in_ok-push-in-Some.ensures.ok are
