use Rattle.std.proofs.Common.{map}
use Rattle.std.specs.FinMap as forests
use Rattle.xml_model.specs.ItemLines.{item_lines}
use Rattle.xq_values.specs.Seen.{item_seen, made_seen}
use Rattle.xq_functions.proofs.Replies.{says_lines, says_end}
use Rattle.xq_functions.proofs.reply.item_lines.Goals as goal

pub returns-in-Ok : goal.returns-in-Ok
returns-in-Ok g c =
    let nav = c.args.nav.now in
    let lines_of_one = item_lines (forests.get (g.N.Nav.forest nav)) (made_seen c.args.made.now) in
    let items = map (item_seen (g.N.Nav.place nav)) c.args.items.now in
    says_lines (g.N.Nav.honest nav) (g.N.Nav.passes nav) (map lines_of_one items) c.in-Ok.reply c.in-Ok.ensures

pub returns-in-Err : goal.returns-in-Err
returns-in-Err g c =
    let nav = c.args.nav.now in
    let lines_of_one = item_lines (forests.get (g.N.Nav.forest nav)) (made_seen c.args.made.now) in
    let items = map (item_seen (g.N.Nav.place nav)) c.args.items.now in
    says_end (g.N.Nav.honest nav) (g.N.Nav.passes nav) (map lines_of_one items) c.in-Err.end c.in-Err.ensures
