use Rattle.std.proofs.Common.{map, ap, sym, ◌∙◌}
use Rattle.std.specs.FinMap as forests
use Rattle.xml_model.specs.Edits as spec
use Rattle.xml_model.specs.Items.{plain, ◌>>=◌}
use Rattle.xq_edits.specs.Seen.{change_seen, content_seen}
use Rattle.xq_eval.proofs.Endings.{followed, looked, exits, exits_looking, exits_no_memory}
use Rattle.xq_eval.proofs.Steps.{goes_on, stops}
use Rattle.xq_eval.specs.Meanings.{means}
use Rattle.xq_eval.specs.Scopes.{variables_seen}
use Rattle.xq_values.specs.Seen.{made_seen}
use Rattle.xml_model.specs.declared.edit.EditKind.{EditKind}
use Rattle.xml_model.specs.DocumentOrder.{node_cmp}
use Rattle.xq_edits.specs.Turns.{nodes_of}
use Rattle.xq_eval.proofs.Steps.{looks_on, looks_no_more}
use Rattle.xq_eval.proofs.Replacing.{may_be, bound_to, put_there}
use Rattle.xq_eval.proofs.Updates.{rises_front}
use Rattle.xq_eval.proofs.replace.Replacing.replaced.Goals as goal

pub may_replace-requires : goal.may_replace-requires
may_replace-requires g c =
    let place = g.N.Nav.place c.args.self.now.nav.now in
    let done = map (change_seen place) c.args.done.now in
    record {
      rising = λ w. rises_front node_cmp (nodes_of done) (map place c.args.more.now) (place c.args.target) (c.requires.rising w);
      apart = c.requires.apart;
    }

pub returns-in_err-may_replace : goal.returns-in_err-may_replace
returns-in_err-may_replace g c =
    let nav = c.args.self.now.nav.now in
    let docs = forests.get (g.N.Nav.forest nav) in
    let place = g.N.Nav.place nav in
    let by = means docs c.args.self.now.by.now in
    let name = c.args.self.now.name in
    let before = made_seen c.args.made.now in
    let done = map (change_seen place) c.args.done.now in
    let target = place c.args.target in
    let more = map place c.args.more.now in
    exits_looking {A = Unit {0}} (g.N.Nav.honest nav) (g.N.Nav.passes nav) (λ _. target) (λ (what : EditKind). what)
    c.from_residual.result c.in_err-may_replace.field-0.0 before (may_be docs done target) (spec.replaced docs name by done target more before)
    c.from_residual.ensures.1 (λ w code q. stops _ (looks_no_more before q)) c.in_err-may_replace.ensures

pub returns-in_err-variables : goal.returns-in_err-variables
returns-in_err-variables g c =
    let nav = c.args.self.now.nav.now in
    let docs = forests.get (g.N.Nav.forest nav) in
    let place = g.N.Nav.place nav in
    let by = means docs c.args.self.now.by.now in
    let name = c.args.self.now.name in
    let before = made_seen c.args.made.now in
    let done = map (change_seen place) c.args.done.now in
    let target = place c.args.target in
    let more = map place c.args.more.now in
    exits_no_memory (g.N.Nav.honest nav) (g.N.Nav.passes nav) (λ (what : EditKind). what)
    c.from_residual-in_err-variables.result before (spec.replaced docs name by done target more before) c.from_residual-in_err-variables.ensures.1

pub returns-in_err-content : goal.returns-in_err-content
returns-in_err-content g c =
    let nav = c.args.self.now.nav.now in
    let docs = forests.get (g.N.Nav.forest nav) in
    let place = g.N.Nav.place nav in
    let by = means docs c.args.self.now.by.now in
    let name = c.args.self.now.name in
    let before = made_seen c.args.made.now in
    let done = map (change_seen place) c.args.done.now in
    let target = place c.args.target in
    let more = map place c.args.more.now in
    let after = made_seen c.content_in.new.made in
    let bound = sym (c.as_slice.ensures ∙ c.in_ok-variables.ensures) in
    exits (g.N.Nav.honest nav) (g.N.Nav.passes nav) content_seen (λ (what : EditKind). what)
    c.from_residual-in_err-content.result c.in_err-content.field-0.0 after after
    (spec.content docs by (variables_seen place c.as_slice.result.now) before) (spec.replaced docs name by done target more before)
    c.from_residual-in_err-content.ensures.1
    (λ w code q. goes_on _ {d = plain (may_be docs done target) before} (looks_on (c.in_ok-may_replace.ensures w))
    ∙ stops _ (ap (λ vs. spec.content docs by (variables_seen place vs) before) bound ∙ q)) c.in_err-content.ensures

pub returns : goal.returns
returns g c =
    let nav = c.args.self.now.nav.now in
    let docs = forests.get (g.N.Nav.forest nav) in
    let place = g.N.Nav.place nav in
    let by = means docs c.args.self.now.by.now in
    let name = c.args.self.now.name in
    let before = made_seen c.args.made.now in
    let done = map (change_seen place) c.args.done.now in
    let target = place c.args.target in
    let more = map place c.args.more.now in
    let after = made_seen c.content_in.new.made in
    let content = content_seen c.in_ok-content.content in
    let bound = sym (c.as_slice.ensures ∙ c.in_ok-variables.ensures) in
    followed (g.N.Nav.honest nav) (g.N.Nav.passes nav) (λ (what : EditKind). what) c.replacement.result after
    (plain (may_be docs done target) before) target before
    (λ n. spec.content docs by (bound_to name n) >>= (λ new. plain (put_there docs done more n new)))
    (λ w. looks_on (c.in_ok-may_replace.ensures w))
    (followed (g.N.Nav.honest nav) (g.N.Nav.passes nav) (λ (what : EditKind). what) c.replacement.result after
    (spec.content docs by (bound_to name target) before) content after (λ new. plain (put_there docs done more target new))
    (λ w. ap (λ vs. spec.content docs by (variables_seen place vs) before) bound ∙ c.in_ok-content.ensures w)
    (looked (g.N.Nav.honest nav) (g.N.Nav.passes nav) (λ (what : EditKind). what) c.replacement.result after
    (put_there docs done more target content) c.replacement.ensures))
