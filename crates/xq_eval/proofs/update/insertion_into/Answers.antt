use Rattle.std.proofs.Common.{[], map, ◌∙◌}
use Rattle.std.specs.FinMap as forests
use Rattle.xml_model.specs.Edits as spec
use Rattle.xml_model.specs.Items.{◌>>=◌}
use Rattle.xq_edits.specs.Seen.{change_seen, content_seen}
use Rattle.xq_eval.proofs.Endings.{same, followed, exits}
use Rattle.xq_eval.proofs.Steps.{goes_on, stops}
use Rattle.xq_eval.specs.Meanings.{means}
use Rattle.xq_values.specs.Seen.{made_seen}
use Rattle.xq_eval.proofs.update.insertion_into.Goals as goal

pub returns-in_err-content : goal.returns-in_err-content
returns-in_err-content g c =
    let nav = c.args.nav.now in
    let docs = forests.get (g.N.Nav.forest nav) in
    let place = g.N.Nav.place nav in
    let before = made_seen c.args.made.now in
    let source = means docs c.args.source.now in
    let target = means docs c.args.target.now in
    let after = made_seen c.content_in.new.made in
    exits (g.N.Nav.honest nav) (g.N.Nav.passes nav) content_seen (map (change_seen place)) c.from_residual.result c.in_err-content.field-0.0 after
    after (spec.content docs source [] before)
    (spec.insert_into docs source target before) c.from_residual.ensures.1 (λ w code q. stops _ q) c.in_err-content.ensures

pub returns-in_err-targets : goal.returns-in_err-targets
returns-in_err-targets g c =
    let nav = c.args.nav.now in
    let docs = forests.get (g.N.Nav.forest nav) in
    let place = g.N.Nav.place nav in
    let before = made_seen c.args.made.now in
    let source = means docs c.args.source.now in
    let target = means docs c.args.target.now in
    let after = made_seen c.targets_in.new.made in
    exits (g.N.Nav.honest nav) (g.N.Nav.passes nav) (map place) (map (change_seen place)) c.from_residual-in_err-targets.result
    c.in_err-targets.field-0.0 after after
    (spec.targets docs target (made_seen c.content_in.new.made)) (spec.insert_into docs source target before) c.from_residual-in_err-targets.ensures.1
    (λ w code q. goes_on _ {d = spec.content docs source [] before} (c.in_ok-content.ensures w) ∙ stops _ q) c.in_err-targets.ensures.leaves

pub returns : goal.returns
returns g c =
    let nav = c.args.nav.now in
    let docs = forests.get (g.N.Nav.forest nav) in
    let place = g.N.Nav.place nav in
    let before = made_seen c.args.made.now in
    let source = means docs c.args.source.now in
    let target = means docs c.args.target.now in
    let between = made_seen c.content_in.new.made in
    let after = made_seen c.targets_in.new.made in
    let content = content_seen c.in_ok-content.content in
    followed (g.N.Nav.honest nav) (g.N.Nav.passes nav) (map (change_seen place)) c.insert_into.result after (spec.content docs source [] before) content between
    (λ c. spec.targets docs target >>= spec.each_alone docs (spec.into c)) c.in_ok-content.ensures
    (followed (g.N.Nav.honest nav) (g.N.Nav.passes nav) (map (change_seen place)) c.insert_into.result after (spec.targets docs target between) (map
    place c.in_ok-targets.targets) after
    (spec.each_alone docs (spec.into content)) c.in_ok-targets.ensures.leaves
    (same (g.N.Nav.honest nav) (g.N.Nav.passes nav) (map (change_seen place)) c.insert_into.result after _ _ (λ _. λ i. spec.each_alone docs
    (spec.into content) (map place (c.as_slice.ensures i)) after)
    (c.insert_into.ensures after)))
