use Rattle.std.proofs.Common.{map, ap, sym, ◌∙◌}
use Rattle.std.specs.FinMap as forests
use Rattle.xml_model.specs.Edits as spec
use Rattle.xq_edits.specs.Seen.{change_seen}
use Rattle.xq_eval.proofs.Endings.{same}
use Rattle.xq_values.specs.Seen.{made_seen}
use Rattle.xq_eval.proofs.Updates.{into_is, preceding_is, following_is, delete_is, undeep_is, replace_is, rename_is}
use Rattle.xq_eval.proofs.update.changes.Goals as goal

pub returns-in-Into : goal.returns-in-Into
returns-in-Into g c =
    let nav = c.args.nav.now in
    let docs = forests.get (g.N.Nav.forest nav) in
    let place = g.N.Nav.place nav in
    let before = made_seen c.args.made.now in
    same (g.N.Nav.honest nav) (g.N.Nav.passes nav) (map (change_seen place))
    c.insertion_into.result (made_seen c.insertion_into.new.made) _ _
    (λ _. into_is docs c.in-Into.source c.in-Into.target before ∙ ap (λ u. spec.changes docs u before) (sym c.in-Into.is)) c.insertion_into.ensures

pub returns-in-Preceding : goal.returns-in-Preceding
returns-in-Preceding g c =
    let nav = c.args.nav.now in
    let docs = forests.get (g.N.Nav.forest nav) in
    let place = g.N.Nav.place nav in
    let before = made_seen c.args.made.now in
    same (g.N.Nav.honest nav) (g.N.Nav.passes nav) (map (change_seen place))
    c.insertion_beside.result (made_seen c.insertion_beside.new.made) _ _
    (λ _. preceding_is docs c.in-Preceding.source c.in-Preceding.target before ∙ ap (λ u. spec.changes docs u before) (sym c.in-Preceding.is))
    c.insertion_beside.ensures

pub returns-in-Following : goal.returns-in-Following
returns-in-Following g c =
    let nav = c.args.nav.now in
    let docs = forests.get (g.N.Nav.forest nav) in
    let place = g.N.Nav.place nav in
    let before = made_seen c.args.made.now in
    same (g.N.Nav.honest nav) (g.N.Nav.passes nav) (map (change_seen place))
    c.insertion_beside-in-Following.result (made_seen c.insertion_beside-in-Following.new.made) _ _
    (λ _. following_is docs c.in-Following.source c.in-Following.target before ∙ ap (λ u. spec.changes docs u before) (sym c.in-Following.is))
    c.insertion_beside-in-Following.ensures

pub returns-in-Delete : goal.returns-in-Delete
returns-in-Delete g c =
    let nav = c.args.nav.now in
    let docs = forests.get (g.N.Nav.forest nav) in
    let place = g.N.Nav.place nav in
    let before = made_seen c.args.made.now in
    same (g.N.Nav.honest nav) (g.N.Nav.passes nav) (map (change_seen place))
    c.deletion.result (made_seen c.deletion.new.made) _ _
    (λ _. delete_is docs c.in-Delete.target before ∙ ap (λ u. spec.changes docs u before) (sym c.in-Delete.is)) c.deletion.ensures

pub returns-in-DeleteUndeep : goal.returns-in-DeleteUndeep
returns-in-DeleteUndeep g c =
    let nav = c.args.nav.now in
    let docs = forests.get (g.N.Nav.forest nav) in
    let place = g.N.Nav.place nav in
    let before = made_seen c.args.made.now in
    same (g.N.Nav.honest nav) (g.N.Nav.passes nav) (map (change_seen place))
    c.deletion-in-DeleteUndeep.result (made_seen c.deletion-in-DeleteUndeep.new.made) _ _
    (λ _. undeep_is docs c.in-DeleteUndeep.target before ∙ ap (λ u. spec.changes docs u before) (sym c.in-DeleteUndeep.is)) c.deletion-in-DeleteUndeep.ensures

pub returns-in-Replace : goal.returns-in-Replace
returns-in-Replace g c =
    let nav = c.args.nav.now in
    let docs = forests.get (g.N.Nav.forest nav) in
    let place = g.N.Nav.place nav in
    let before = made_seen c.args.made.now in
    same (g.N.Nav.honest nav) (g.N.Nav.passes nav) (map (change_seen place))
    c.replacement_of.result (made_seen c.replacement_of.new.made) _ _
    (λ _. replace_is docs c.in-Replace.name c.in-Replace.target c.in-Replace.by before ∙ ap (λ u. spec.changes docs u before) (sym c.in-Replace.is))
    c.replacement_of.ensures

pub returns-in-Rename : goal.returns-in-Rename
returns-in-Rename g c =
    let nav = c.args.nav.now in
    let docs = forests.get (g.N.Nav.forest nav) in
    let place = g.N.Nav.place nav in
    let before = made_seen c.args.made.now in
    same (g.N.Nav.honest nav) (g.N.Nav.passes nav) (map (change_seen place))
    c.renaming.result (made_seen c.renaming.new.made) _ _
    (λ _. rename_is docs c.in-Rename.target c.in-Rename.name before ∙ ap (λ u. spec.changes docs u before) (sym c.in-Rename.is)) c.renaming.ensures
