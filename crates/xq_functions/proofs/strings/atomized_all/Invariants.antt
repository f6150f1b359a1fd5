use Rattle.std.proofs.Common.{◌≡◌, ◌++◌, map, drop}
use Rattle.std.specs.FinMap as forests
use Rattle.xml_model.specs.Nodes.{atomized}
use Rattle.xq_values.specs.Seen.{item_seen, made_seen}
use Rattle.xq_functions.proofs.strings.atomized_all.Given as goal

abbrev pub invariant-loop-value : goal.invariant-loop-value
invariant-loop-value g l = g.N.Nav.honest l.nav →
    l.all ++ map (atomized (forests.get (g.N.Nav.forest l.nav)) (made_seen l.made)) (map (map (item_seen (g.N.Nav.place l.nav))) (drop l.value-index l.args))
    ≡ map (atomized (forests.get (g.N.Nav.forest l.nav)) (made_seen l.made)) (map (map (item_seen (g.N.Nav.place l.nav))) l.args)
