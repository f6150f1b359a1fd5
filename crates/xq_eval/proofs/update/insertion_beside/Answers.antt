use Rattle.std.proofs.Common.{[], map, sym, ◌∙◌}
use Rattle.std.specs.FinMap as forests
use Rattle.xml_model.specs.Edits as spec
use Rattle.xml_model.specs.Items.{plain, ◌>>=◌}
use Rattle.xq_edits.specs.Seen.{change_seen, content_seen, put}
use Rattle.xq_eval.proofs.Endings.{same, followed, exits, exits_code}
use Rattle.xq_eval.proofs.Steps.{goes_on, stops}
use Rattle.xq_eval.specs.Meanings.{means}
use Rattle.xq_values.specs.Seen.{made_seen}
use Rattle.xq_eval.proofs.Steps.{looks_on, looks_no_more}
use Rattle.xq_eval.proofs.update.insertion_beside.Goals as goal

pub returns-in_err-content : goal.returns-in_err-content
returns-in_err-content g c =
    let nav = c.args.nav.now in
    let docs = forests.get (g.N.Nav.forest nav) in
    let place = g.N.Nav.place nav in
    let before = made_seen c.args.made.now in
    let source = means docs c.args.source.now in
    let target = means docs c.args.target.now in
    let after = made_seen c.content_in.new.made in
    exits (g.N.Nav.honest nav) (g.N.Nav.passes nav) content_seen (map (change_seen place)) c.from_residual.result c.in_err-content.field-0.0 after
    after (spec.content docs source [] before)
    (spec.insert_beside docs (put c.args.side) source target before) c.from_residual.ensures.1 (λ w code q. stops _ q) c.in_err-content.ensures

pub returns-in_err-targets : goal.returns-in_err-targets
returns-in_err-targets g c =
    let nav = c.args.nav.now in
    let docs = forests.get (g.N.Nav.forest nav) in
    let place = g.N.Nav.place nav in
    let before = made_seen c.args.made.now in
    let source = means docs c.args.source.now in
    let target = means docs c.args.target.now in
    let after = made_seen c.targets_in.new.made in
    exits (g.N.Nav.honest nav) (g.N.Nav.passes nav) (map place) (map (change_seen place)) c.from_residual-in_err-targets.result
    c.in_err-targets.field-0.0 after after
    (spec.targets docs target (made_seen c.content_in.new.made)) (spec.insert_beside docs (put c.args.side) source target before)
    c.from_residual-in_err-targets.ensures.1
    (λ w code q. goes_on _ {d = spec.content docs source [] before} (c.in_ok-content.ensures w) ∙ stops _ q) c.in_err-targets.ensures.leaves

pub returns-in_err-kids : goal.returns-in_err-kids
returns-in_err-kids g c =
    let nav = c.args.nav.now in
    let docs = forests.get (g.N.Nav.forest nav) in
    let place = g.N.Nav.place nav in
    let before = made_seen c.args.made.now in
    let source = means docs c.args.source.now in
    let target = means docs c.args.target.now in
    let after = made_seen c.targets_in.new.made in
    exits_code (g.N.Nav.honest nav) (g.N.Nav.passes nav) (map (change_seen place)) c.from_residual-in_err-kids.result c.in_err-kids.field-0.0 after
    (spec.insert_beside docs (put c.args.side) source target before) c.from_residual-in_err-kids.ensures.1
    (λ w. goes_on _ {d = spec.content docs source [] before} (c.in_ok-content.ensures w)
    ∙ (goes_on _ {d = spec.targets docs target (made_seen c.content_in.new.made)} (c.in_ok-targets.ensures.leaves w)
    ∙ stops _ (looks_no_more after (sym c.in_err-kids.ensures))))

pub returns : goal.returns
returns g c =
    let nav = c.args.nav.now in
    let docs = forests.get (g.N.Nav.forest nav) in
    let place = g.N.Nav.place nav in
    let before = made_seen c.args.made.now in
    let source = means docs c.args.source.now in
    let target = means docs c.args.target.now in
    let side = c.args.side in
    let between = made_seen c.content_in.new.made in
    let after = made_seen c.targets_in.new.made in
    let content = content_seen c.in_ok-content.content in
    let kids = c.in_ok-kids.kids in
    followed (g.N.Nav.honest nav) (g.N.Nav.passes nav) (map (change_seen place)) c.insert_beside.result after (spec.content docs source [] before)
    content between
    (λ c. spec.targets docs target >>= (λ ns. plain (spec.without_attributes c) >>= (λ kids. spec.each_alone docs (spec.beside (put side kids)) ns)))
    c.in_ok-content.ensures
    (followed (g.N.Nav.honest nav) (g.N.Nav.passes nav) (map (change_seen place)) c.insert_beside.result after (spec.targets docs target between)
    (map place c.in_ok-targets.targets) after
    (λ ns. plain (spec.without_attributes content) >>= (λ kids. spec.each_alone docs (spec.beside (put side kids)) ns)) c.in_ok-targets.ensures.leaves
    (followed (g.N.Nav.honest nav) (g.N.Nav.passes nav) (map (change_seen place)) c.insert_beside.result after (plain (spec.without_attributes
    content) after) kids after
    (λ kids. spec.each_alone docs (spec.beside (put side kids)) (map place c.in_ok-targets.targets)) (λ _. looks_on (sym c.in_ok-kids.ensures))
    (same (g.N.Nav.honest nav) (g.N.Nav.passes nav) (map (change_seen place)) c.insert_beside.result after _ _
    (λ _. λ i. spec.each_alone docs (spec.beside (put side kids)) (map place (c.as_slice.ensures i)) after)
    (c.insert_beside.ensures after))))
