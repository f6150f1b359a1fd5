use Rattle.xq_values.specs.Seen.{node_seen}
use Rattle.xq_nodes.specs.declared.joining.Run.{Run}
use Rattle.xq_nodes.proofs.Joins.{united_marked}
use Rattle.xq_nodes.proofs.runs.united_run.Goals as goal

pub returns-clause-marked : goal.returns-clause-marked
returns-clause-marked g c = λ h m n.
    let run : Run = record { nodes = c.in_ok-united_lists.field-0; rises = c.both-rises.result } in
    united_marked (node_seen (g.N.Nav.place c.args.nav.now)) c.args.a c.args.b run c.both-rises.ensures (c.in_ok-united_lists.ensures.gives h) m n
