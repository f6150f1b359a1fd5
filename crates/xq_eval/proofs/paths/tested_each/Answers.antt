use Rattle.std.proofs.Common.{map, ap}
use Rattle.std.specs.FinMap as forests
use Rattle.xml_model.specs.Evaluation.{from_each}
use Rattle.xq_values.specs.Seen.{made_seen, node_seen}
use Rattle.xq_eval.specs.Paths.{tested_from}
use Rattle.xq_eval.proofs.paths.tested_each.Goals as goal

pub loop-n-init : goal.loop-n-init
loop-n-init g c =
    λ w. (
      c.new-joining.ensures.right (g.N.Nav.place c.args.nav.now),
      ap (λ j. from_each (tested_from (forests.get (g.N.Nav.forest c.args.nav.now)) c.args.axis c.args.test.now) j (map (node_seen (g.N.Nav.place
          c.args.nav.now)) c.args.nodes.now) (made_seen c.args.made.now)) (c.new-joining.ensures.none (g.N.Nav.place c.args.nav.now)),
    )
