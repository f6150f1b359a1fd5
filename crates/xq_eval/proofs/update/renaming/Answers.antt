use Rattle.std.proofs.Common.{[], map, sym, subst, List}
use Rattle.std.specs.FinMap as forests
use Rattle.xml_model.specs.Edits as spec
use Rattle.xq_edits.specs.Seen.{change_seen}
use Rattle.xq_eval.proofs.Endings.{same, followed, exits}
use Rattle.xq_eval.proofs.Steps.{stops}
use Rattle.xq_eval.specs.Meanings.{means}
use Rattle.xq_values.specs.Seen.{made_seen}
use Rattle.xml_model.specs.DocumentOrder.{node_cmp}
use Rattle.xml_model.specs.declared.nav.Id.{Id}
use Rattle.xq_nodes.specs.Joins.{Rises}
use Rattle.xq_eval.proofs.Updates.{renamed_turn}
use Rattle.xq_eval.proofs.update.renaming.Goals as goal

pub returns-in_err-targets : goal.returns-in_err-targets
returns-in_err-targets g c =
    let nav = c.args.nav.now in
    let docs = forests.get (g.N.Nav.forest nav) in
    let place = g.N.Nav.place nav in
    let before = made_seen c.args.made.now in
    let target = means docs c.args.target.now in
    let after = made_seen c.targets_in.new.made in
    exits (g.N.Nav.honest nav) (g.N.Nav.passes nav) (map place) (map (change_seen place)) c.from_residual.result c.in_err-targets.field-0.0 after
    after (spec.targets docs target before)
    (spec.rename docs c.args.name.now target before) c.from_residual.ensures.1 (λ w code q. stops _ q) c.in_err-targets.ensures.leaves

pub returns : goal.returns
returns g c =
    let nav = c.args.nav.now in
    let docs = forests.get (g.N.Nav.forest nav) in
    let place = g.N.Nav.place nav in
    let before = made_seen c.args.made.now in
    let target = means docs c.args.target.now in
    let after = made_seen c.targets_in.new.made in
    let turn = renamed_turn docs c.args.name.now in
    followed (g.N.Nav.honest nav) (g.N.Nav.passes nav) (map (change_seen place)) c.rename.result after (spec.targets docs target before)
    (map place c.in_ok-targets.targets) after (spec.each docs turn []) c.in_ok-targets.ensures.leaves
    (same (g.N.Nav.honest nav) (g.N.Nav.passes nav) (map (change_seen place)) c.rename.result after _ _
    (λ _. λ i. spec.each docs turn [] (map place (c.as_slice.ensures i)) after) (c.rename.ensures after))

pub rename-requires : goal.rename-requires
rename-requires g c =
    let place = g.N.Nav.place c.args.nav.now in
    record { rising = λ w. subst (λ (ts : List Id). Rises node_cmp (map place ts)) (sym c.as_slice.ensures) (c.in_ok-targets.ensures.rising w) }
