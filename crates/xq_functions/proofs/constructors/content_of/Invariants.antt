use Rattle.std.proofs.Common.{◌≡◌, map, drop}
use Rattle.std.specs.FinMap as forests
use Rattle.xq_values.specs.Contents as contents
use Rattle.xq_values.specs.Seen.{item_seen, made_seen}
use Rattle.xq_functions.proofs.constructors.content_of.Given as goal

abbrev pub invariant-loop-item : goal.invariant-loop-item
invariant-loop-item g l = g.N.Nav.honest l.nav →
    contents.with_items (forests.get (g.N.Nav.forest l.nav)) (made_seen l.made) l.content (map (item_seen (g.N.Nav.place l.nav)) (drop l.item-index l.items))
    ≡ contents.with_items (forests.get (g.N.Nav.forest l.nav)) (made_seen l.made) contents.no_content (map (item_seen (g.N.Nav.place l.nav)) l.items)
