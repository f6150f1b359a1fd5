use Rattle.std.proofs.Common.{map, sym, ap, subst, ◌∙◌}
use Rattle.xml_model.specs.DocumentOrder.{union}
use Rattle.xml_model.specs.Nodes.{node_cmp}
use Rattle.xq_values.specs.Seen.{node_seen}
use Rattle.xq_nodes.specs.declared.joining.Run.{Run}
use Rattle.xq_nodes.specs.Joins.{join_runs, Rises}
use Rattle.xq_nodes.proofs.Joins.{run_more, marked_more}
use Rattle.xq_nodes.proofs.Unions.{union-nil}
use Rattle.xq_nodes.proofs.joining.Joining.push.Goals as goal

pub returns-then-is_empty-clause-joined : goal.returns-then-is_empty-clause-joined
returns-then-is_empty-clause-joined g c = λ h m.
    let seen = node_seen (g.N.Nav.place c.args.nav.now) in
    let joined = join_runs seen c.args.self.now.runs.items in
    sym (ap (λ l. union node_cmp joined (map seen l)) (c.is_empty.ensures.0 c.if-is_empty.true) ∙ union-nil node_cmp joined)

pub returns-clause-joined : goal.returns-clause-joined
returns-clause-joined g c = λ h m.
    let seen = node_seen (g.N.Nav.place c.args.nav.now) in
    let old = c.args.self.now.runs.items in
    let run : Run = record { nodes = c.args.more; rises = c.in_ok-rises.rises } in
    let pushed = c.push_run.new.runs.items in
    c.in_ok-settle.ensures.gives h (marked_more seen old pushed run c.in_ok-push_run.ensures.items m (λ t. subst (λ l. Rises node_cmp (map seen l)) c.as_slice.ensures (c.in_ok-rises.ensures.gives h t))) ∙ run_more seen old pushed run c.in_ok-push_run.ensures.items

pub returns-clause-right : goal.returns-clause-right
returns-clause-right g c = λ h m.
    let seen = node_seen (g.N.Nav.place c.args.nav.now) in
    let old = c.args.self.now.runs.items in
    let run : Run = record { nodes = c.args.more; rises = c.in_ok-rises.rises } in
    c.in_ok-settle.ensures.marked h (marked_more seen old c.push_run.new.runs.items run c.in_ok-push_run.ensures.items m (λ t. subst (λ l. Rises node_cmp (map seen l)) c.as_slice.ensures (c.in_ok-rises.ensures.gives h t)))
