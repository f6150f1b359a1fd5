use Rattle.std.specs.FinMap as forests
use Rattle.xq_functions.proofs.reply.placed_at.Goals as goal

pub returns : goal.returns
returns g c = c.made_at.ensures (forests.get (g.N.Nav.forest c.args._nav.now)) (g.N.Nav.place c.args._nav.now)
