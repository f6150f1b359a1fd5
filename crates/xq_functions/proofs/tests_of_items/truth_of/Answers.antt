use Rattle.xq_functions.proofs.tests_of_items.truth_of.Goals as goal

pub returns : goal.returns
returns g c = c.effective_boolean.ensures (g.N.Nav.place c.args._nav.now)
