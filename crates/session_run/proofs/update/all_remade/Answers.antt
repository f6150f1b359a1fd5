use Rattle.std.proofs.Common.{◌≡◌, ◌<◌, length, get_or, sym, ap, subst, ◌∙◌, arith}
use Rattle.session_run.specs.Updates.{AreThere, remade_all}
use Rattle.session_run.specs.Effects.{AreValidChanges}
use Rattle.session_run.proofs.Remaking.{next_edits, can_here, one_more, finished, is_there, is_valid, there-more, valid-more}
use Rattle.session_run.proofs.update.all_remade.Goals as goal

pub remade-requires-clause-rising : goal.remade-requires-clause-rising
remade-requires-clause-rising c =
    (can_here c.args.docs.now c.args.edits.now c.loop-at.at-index c.at-item.result c.requires.edits (omega (arith, ap length c.as_slice-at-items.ensures))
    (c.at-item.is ∙ ap (λ es. get_or es c.loop-at.at-index c.at-item.result) c.as_slice-at-items.ensures)).rising

pub loop-at-preserved : goal.loop-at-preserved
loop-at-preserved c =
    let docs = c.args.docs.now in
    let edits = c.args.edits.now in
    let at = c.at-item.result in
    let i = c.loop-at.at-index in
    let old = c.loop-at.changes in
    let change = c.in_ok-remade.field-0 in
    let made = c.in_ok-remade.ensures in
    let found = sym c.in-Some.ensures.document in
    let within : i < length edits = omega (arith, ap length c.as_slice-at-items.ensures) in
    let is : at ≡ get_or edits i at = c.at-item.is ∙ ap (λ es. get_or es i at) c.as_slice-at-items.ensures in
    record {
      all = one_more docs edits i at old (next_edits edits i at within is) _ found (remade_all docs docs edits) c.loop-at.invariant.all change made
          c.push.new.self c.in_ok-push.ensures.ok;
      there = subst (AreThere docs) (sym c.in_ok-push.ensures.ok) (there-more docs old change c.loop-at.invariant.there (is_there docs at _ change found made));
      valid = subst AreValidChanges (sym c.in_ok-push.ensures.ok) (valid-more old change c.loop-at.invariant.valid
          (is_valid docs at _ change c.is_forest.ensures (can_here docs edits i at c.requires.edits within is) found made));
    }

pub returns : goal.returns
returns c = record {
  remade = (
    finished c.args.docs.now c.args.edits.now c.loop-at.at-index c.loop-at.changes (remade_all c.args.docs.now c.args.docs.now c.args.edits.now)
        (omega (arith, ap length c.as_slice-at-items.ensures)) c.loop-at.invariant.all,
    c.loop-at.invariant.there,
  );
  valid = c.loop-at.invariant.valid;
}
