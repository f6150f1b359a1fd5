use Rattle.std.proofs.Common.{◌≡◌, map, drop}
use Rattle.std.specs.FinMap as forests
use Rattle.xml_model.specs.ItemLines.{item_lines}
use Rattle.xq_values.specs.Seen.{item_seen, made_seen}
use Rattle.xq_functions.specs.Rooms.{replied, no_lines}
use Rattle.xq_functions.proofs.reply.reply_of.Given as goal

-- the reply so far, with the lines of the items that are left, is that of all items
abbrev pub invariant-loop-item : goal.invariant-loop-item
invariant-loop-item g l =
    let lines_of_one = item_lines (forests.get (g.N.Nav.forest l.nav)) (made_seen l.made) in
    let place = g.N.Nav.place l.nav in
    g.N.Nav.honest l.nav →
    replied l.reply (map lines_of_one (map (item_seen place) (drop l.item-index l.items))) ≡ replied no_lines (map lines_of_one (map (item_seen place) l.items))
