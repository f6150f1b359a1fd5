use Rattle.std.proofs.Common.{◌≡◌, ◌++◌, map, drop}
use Rattle.std.specs.FinMap as forests
use Rattle.xml_model.specs.Nodes as spec
use Rattle.xq_values.specs.Seen.{item_seen, made_seen}
use Rattle.xq_functions.proofs.atoms.atomized.Given as goal

abbrev pub invariant-loop-item : goal.invariant-loop-item
invariant-loop-item g l = g.N.Nav.honest l.nav →
    l.all ++ spec.atomized (forests.get (g.N.Nav.forest l.nav)) (made_seen l.made) (map (item_seen (g.N.Nav.place l.nav)) (drop l.item-index l.items))
    ≡ spec.atomized (forests.get (g.N.Nav.forest l.nav)) (made_seen l.made) (map (item_seen (g.N.Nav.place l.nav)) l.items)
