use Rattle.std.proofs.Common.{None}
use Rattle.std.specs.FinMap as forests
use Rattle.xml_model.specs.Edits as spec
use Rattle.xq_edits.specs.Seen.{content_seen}
use Rattle.xq_eval.proofs.Endings.{followed, looked, exits}
use Rattle.xq_eval.proofs.Steps.{stops}
use Rattle.xq_eval.specs.Meanings.{means}
use Rattle.xq_eval.specs.Scopes.{items_seen, variables_seen}
use Rattle.xq_nodes.proofs.Answering.{looks_same}
use Rattle.xq_values.specs.Seen.{made_seen}
use Rattle.xml_model.specs.Constructors.{content_of}
use Rattle.xml_model.specs.Items.{look}
use Rattle.xq_eval.proofs.update.content_in.Goals as goal

pub returns-in_err-found : goal.returns-in_err-found
returns-in_err-found g c =
    let nav = c.args.nav.now in
    let docs = forests.get (g.N.Nav.forest nav) in
    let place = g.N.Nav.place nav in
    let before = made_seen c.args.made.now in
    let env = variables_seen place c.args.variables.now in
    exits (g.N.Nav.honest nav) (g.N.Nav.passes nav) (items_seen place) content_seen c.from_residual.result c.in_err-found.field-0.0 (made_seen c.eval.new.made)
    (made_seen c.eval.new.made) (means docs c.args.expr.now env None before) (spec.content docs (means docs c.args.expr.now) env before)
    c.from_residual.ensures.1 (λ w code q. stops _ q) c.in_err-found.ensures

pub returns : goal.returns
returns g c =
    let nav = c.args.nav.now in
    let docs = forests.get (g.N.Nav.forest nav) in
    let place = g.N.Nav.place nav in
    let before = made_seen c.args.made.now in
    let env = variables_seen place c.args.variables.now in
    let after = made_seen c.eval.new.made in
    let items = items_seen place c.in_ok-found.found in
    followed (g.N.Nav.honest nav) (g.N.Nav.passes nav) content_seen c.new_content.result after (means docs c.args.expr.now env None before) items after
    (λ items. look (λ made. spec.as_content (content_of docs made items))) c.in_ok-found.ensures
    (looked (g.N.Nav.honest nav) (g.N.Nav.passes nav) content_seen c.new_content.result after (spec.as_content (content_of docs after items))
    (looks_same (g.N.Nav.honest nav) (g.N.Nav.passes nav) content_seen c.new_content.result _ _
    (λ _. λ i. spec.as_content (content_of docs (made_seen (c.as_slice.ensures i)) (items_seen place (c.as_slice-2.ensures i)))) c.new_content.ensures))
