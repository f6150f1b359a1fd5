use Rattle.std.proofs.Common.{[], map, None}
use Rattle.std.specs.FinMap as forests
use Rattle.xml_model.specs.Edits as spec
use Rattle.xml_model.specs.Items.{plain}
use Rattle.xq_eval.proofs.Endings.{followed, looked, exits, ends_anyhow}
use Rattle.xq_eval.proofs.Steps.{stops}
use Rattle.xq_eval.specs.Meanings.{means}
use Rattle.xq_eval.specs.Scopes.{items_seen}
use Rattle.xq_nodes.proofs.Answering.{looks_same}
use Rattle.xq_values.specs.Seen.{made_seen}
use Rattle.xq_eval.proofs.Updates.{looks_rising}
use Rattle.xq_eval.proofs.update.targets_in.Goals as goal

pub returns-in_err-found : goal.returns-in_err-found
returns-in_err-found g c =
    let nav = c.args.nav.now in
    let docs = forests.get (g.N.Nav.forest nav) in
    let place = g.N.Nav.place nav in
    let before = made_seen c.args.made.now in
    record {
      leaves = exits (g.N.Nav.honest nav) (g.N.Nav.passes nav) (items_seen place) (map place) c.from_residual.result c.in_err-found.field-0.0
          (made_seen c.eval.new.made)
          (made_seen c.eval.new.made) (means docs c.args.expr.now [] None before) (spec.targets docs (means docs c.args.expr.now) before)
          c.from_residual.ensures.1 (λ w code q. stops _ q) c.in_err-found.ensures;
      rising = λ w. ends_anyhow c.from_residual.result _ _ c.from_residual.ensures.1;
    }

pub returns : goal.returns
returns g c =
    let nav = c.args.nav.now in
    let docs = forests.get (g.N.Nav.forest nav) in
    let place = g.N.Nav.place nav in
    let before = made_seen c.args.made.now in
    let after = made_seen c.eval.new.made in
    let items = items_seen place c.in_ok-found.found in
    record {
      leaves = followed (g.N.Nav.honest nav) (g.N.Nav.passes nav) (map place) c.targets_of.result after (means docs c.args.expr.now [] None before) items after
          (λ items. plain (spec.targets_of items)) c.in_ok-found.ensures
          (looked (g.N.Nav.honest nav) (g.N.Nav.passes nav) (map place) c.targets_of.result after (spec.targets_of items)
          (looks_same (g.N.Nav.honest nav) (g.N.Nav.passes nav) (map place) c.targets_of.result _ _ (λ _. λ i. spec.targets_of (items_seen place
          (c.as_slice.ensures i))) c.targets_of.ensures));
      rising = looks_rising (g.N.Nav.honest nav) (g.N.Nav.passes nav) place c.targets_of.result (items_seen place c.as_slice.result.now) c.targets_of.ensures;
    }
