use Rattle.xq_values.specs.Seen.{node_seen}
use Rattle.xq_nodes.proofs.Joins.{last_joined, last_marks, last_marked}
use Rattle.xq_nodes.proofs.runs.join_last.Goals as goal

pub returns-clause-gives : goal.returns-clause-gives
returns-clause-gives g c = λ h m.
    let seen = node_seen (g.N.Nav.place c.args.nav.now) in
    let old = c.args.runs.now.items in
    let one = c.pop.new.self.items in
    let rest = c.pop-2.new.self.items in
    let new = c.push_run.new.runs.items in
    let k = last_marks seen old one rest new c.in-Some-pop.a c.in-Some.b c.in_ok-run.run' c.in-Some.ensures.items c.in-Some-pop.ensures.items c.in_ok-push_run.ensures.items m in
    last_joined seen old one rest new c.in-Some-pop.a c.in-Some.b c.in_ok-run.run' c.in-Some.ensures.items c.in-Some-pop.ensures.items c.in_ok-push_run.ensures.items (c.in_ok-run.ensures.gives h k.0 k.1)

pub returns-clause-marked : goal.returns-clause-marked
returns-clause-marked g c = λ h m.
    let seen = node_seen (g.N.Nav.place c.args.nav.now) in
    let old = c.args.runs.now.items in
    let one = c.pop.new.self.items in
    let rest = c.pop-2.new.self.items in
    let new = c.push_run.new.runs.items in
    let k = last_marks seen old one rest new c.in-Some-pop.a c.in-Some.b c.in_ok-run.run' c.in-Some.ensures.items c.in-Some-pop.ensures.items c.in_ok-push_run.ensures.items m in
    last_marked seen old one rest new c.in-Some-pop.a c.in-Some.b c.in_ok-run.run' c.in-Some.ensures.items c.in-Some-pop.ensures.items c.in_ok-push_run.ensures.items m
    (c.in_ok-run.ensures.marked h k.0 k.1)
