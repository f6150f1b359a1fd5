use Rattle.xq_functions.proofs.lists.nodes_of.Goals as goal

pub returns : goal.returns
returns g c = c.nodes_or.ensures (g.N.Nav.place c.args._nav.now)
