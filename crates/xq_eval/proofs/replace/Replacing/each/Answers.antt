use Rattle.std.proofs.Common.{◌-◌, [], map, length, get_or, take, drop, sym, subst}
use Rattle.std.specs.FinMap as forests
use Rattle.xml_model.specs.Edits as spec
use Rattle.xq_edits.specs.Seen.{change_seen}
use Rattle.xq_eval.proofs.Endings.{exits, exits_no_memory}
use Rattle.xq_eval.specs.Meanings.{means}
use Rattle.xq_values.specs.Seen.{made_seen}
use Rattle.xml_model.specs.declared.edit.EditKind.{EditKind}
use Rattle.xml_model.specs.declared.nav.Id.{Id}
use Rattle.xq_eval.proofs.Replacing.{AreReplaced, first_and_others, none_left, none_replaced, turn_rises, turn_apart, turn_replaced, turn_ends, all_replaced}
use Rattle.xq_eval.proofs.replace.Replacing.each.Goals as goal

pub loop-rest-init : goal.loop-rest-init
loop-rest-init g c =
    let nav = c.args.self.now.nav.now in
    let docs = forests.get (g.N.Nav.forest nav) in
    let place = g.N.Nav.place nav in
    let by = means docs c.args.self.now.by.now in
    let name = c.args.self.now.name in
    let before = made_seen c.args.made.now in
    let targets = c.args.targets.now in
    λ w. subst (λ d. AreReplaced place docs name by targets before d targets before) (sym c.new-done.ensures) (none_replaced place docs name by targets before)

pub replaced-requires : goal.replaced-requires
replaced-requires g c =
    let nav = c.args.self.now.nav.now in
    let docs = forests.get (g.N.Nav.forest nav) in
    let place = g.N.Nav.place nav in
    let by = means docs c.args.self.now.by.now in
    let name = c.args.self.now.name in
    let before = made_seen c.args.made.now in
    let targets = c.args.targets.now in
    let now = made_seen c.loop-rest.made in
    let rest = c.loop-rest.rest.now in
    let nowhere : Id = record { doc = 0; node = 0 } in
    let target = get_or rest 0 nowhere in
    let more = take (length rest - 1) (drop 1 rest) in
    let splits = first_and_others rest nowhere c.in-len1-up.len_at_least in
    record {
      rising = λ w. turn_rises place docs name by targets before c.loop-rest.done c.as_slice.result.now rest more target now c.as_slice.ensures
          splits (c.loop-rest.invariant w) (c.requires w);
      apart = λ w. turn_apart place docs name by targets before c.loop-rest.done c.as_slice.result.now rest more target now c.as_slice.ensures splits
          (c.loop-rest.invariant w);
    }

pub loop-rest-preserved : goal.loop-rest-preserved
loop-rest-preserved g c =
    let nav = c.args.self.now.nav.now in
    let docs = forests.get (g.N.Nav.forest nav) in
    let place = g.N.Nav.place nav in
    let by = means docs c.args.self.now.by.now in
    let name = c.args.self.now.name in
    let before = made_seen c.args.made.now in
    let targets = c.args.targets.now in
    let now = made_seen c.loop-rest.made in
    let rest = c.loop-rest.rest.now in
    let nowhere : Id = record { doc = 0; node = 0 } in
    let target = get_or rest 0 nowhere in
    let more = take (length rest - 1) (drop 1 rest) in
    let splits = first_and_others rest nowhere c.in-len1-up.len_at_least in
    λ w. turn_replaced place docs name by targets before c.loop-rest.done c.as_slice.result.now rest more target now c.as_slice.ensures splits
    (c.loop-rest.invariant w)
    c.push.new.self c.in_ok-what.what (made_seen c.replaced.new.made) c.in_ok-push.ensures.ok (c.in_ok-what.ensures w)

pub returns-in_err-what : goal.returns-in_err-what
returns-in_err-what g c =
    let nav = c.args.self.now.nav.now in
    let docs = forests.get (g.N.Nav.forest nav) in
    let place = g.N.Nav.place nav in
    let by = means docs c.args.self.now.by.now in
    let name = c.args.self.now.name in
    let before = made_seen c.args.made.now in
    let targets = c.args.targets.now in
    let now = made_seen c.loop-rest.made in
    let rest = c.loop-rest.rest.now in
    let nowhere : Id = record { doc = 0; node = 0 } in
    let target = get_or rest 0 nowhere in
    let more = take (length rest - 1) (drop 1 rest) in
    let splits = first_and_others rest nowhere c.in-len1-up.len_at_least in
    exits (g.N.Nav.honest nav) (g.N.Nav.passes nav) (λ (what : EditKind). what) (map (change_seen place)) c.from_residual.result
    c.in_err-what.field-0.0 (made_seen c.replaced.new.made)
    (made_seen c.replaced.new.made) (spec.replaced docs name by (map (change_seen place) c.as_slice.result.now) (place target) (map place more) now)
    (spec.each docs (spec.replaced docs name by) [] (map place targets) before) c.from_residual.ensures.1
    (λ w code q. turn_ends place docs name by targets before c.loop-rest.done c.as_slice.result.now rest more target now c.as_slice.ensures splits
    (c.loop-rest.invariant w) code q) c.in_err-what.ensures

pub returns-in_err-push : goal.returns-in_err-push
returns-in_err-push g c =
    let nav = c.args.self.now.nav.now in
    let docs = forests.get (g.N.Nav.forest nav) in
    let place = g.N.Nav.place nav in
    let by = means docs c.args.self.now.by.now in
    let name = c.args.self.now.name in
    let before = made_seen c.args.made.now in
    let targets = c.args.targets.now in
    exits_no_memory (g.N.Nav.honest nav) (g.N.Nav.passes nav) (map (change_seen place)) c.from_residual-in_err-push.result (made_seen c.replaced.new.made)
    (spec.each docs (spec.replaced docs name by) [] (map place targets) before) c.from_residual-in_err-push.ensures.1

pub returns : goal.returns
returns g c =
    let nav = c.args.self.now.nav.now in
    let docs = forests.get (g.N.Nav.forest nav) in
    let place = g.N.Nav.place nav in
    let by = means docs c.args.self.now.by.now in
    let name = c.args.self.now.name in
    let before = made_seen c.args.made.now in
    let targets = c.args.targets.now in
    λ w. all_replaced place docs name by targets before c.loop-rest.done c.loop-rest.rest.now (made_seen c.loop-rest.made) (c.loop-rest.invariant w)
    (none_left c.loop-rest.rest.now c.in_default.len_below)
