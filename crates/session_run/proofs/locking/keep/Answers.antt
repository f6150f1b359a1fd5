use Rattle.std.proofs.Common.{◌≡◌, Some, OnOk, refl, sym, ap, subst, ◌∙◌}
use Rattle.session_core.specs.Keeping.Kept.{past}
use Rattle.session_run.specs.Answers.{answered}
use Rattle.xml_model.specs.Changes.{ChangeMap}
use Rattle.session_run.specs.Effects.{with_changes}
use Rattle.session_run.specs.Tied.{IsReady}
use Rattle.session_run.proofs.Closing.{stays, ready_behind, answer_closes}
use Rattle.session_run.proofs.Calling.{update_right, tied_effect}
use Rattle.session_run.proofs.Memory.{lacking}
use Rattle.session_run.proofs.locking.keep.Goals as goal

pub answer_unchanged-requires-clause-right : goal.answer_unchanged-requires-clause-right
answer_unchanged-requires-clause-right c = lacking c.args.core.now.base c.args.session (past c.args.core.now) (Some _)

pub returns-then-is_err-clause-ready : goal.returns-then-is_err-clause-ready
returns-then-is_err-clause-ready c =
    subst (λ es. OnOk c.answer_unchanged.result (IsReady c.args.session es c.answer_unchanged.new.core)) (sym c.reserve.ensures.same)
    (stays c.answer_unchanged.result c.args.session c.args.changes.now.changes c.args.core.now c.args.core.now c.answer_unchanged.new.core refl c.requires.tied
    c.answer_unchanged.ensures.ready)

pub answer-requires-clause-right : goal.answer-requires-clause-right
answer-requires-clause-right c =
    update_right c.args.core.now.base c.args.session
    (past c.args.core.now) c.args.changes.now.changes c.requires.tied c.args.call c.args.effect c.requires.updating c.requires.granted c.requires.statement
    c.requires.effect c.requires.passes c.requires.plain

pub returns-clause-ready : goal.returns-clause-ready
returns-clause-ready c =
    let old : ChangeMap = c.args.changes.now.changes in
    let after : ChangeMap = with_changes c.args.effect.changes old in
    let same : c.put_all.new.changes.changes ≡ after =
    c.put_all.ensures ∙ ap (λ es. with_changes c.args.effect.changes es) c.reserve.ensures.same in
    subst (λ x. IsReady c.args.session x c.answer.new.core) (sym same)
    (ready_behind c.args.session after c.args.core.now c.answer.new.core
    (answered c.args.session (Some c.args.call) c.args.effect.says) c.in_ok-outcome.ensures.ok refl tt c.requires.settled
    (tied_effect c.args.core.now.base c.args.session
    (past c.args.core.now) old c.requires.tied c.args.call c.args.effect c.requires.updating c.requires.granted c.requires.statement c.requires.effect))

pub returns-clause-closed : goal.returns-clause-closed
returns-clause-closed c =
    let right = update_right c.args.core.now.base c.args.session
    (past c.args.core.now) c.args.changes.now.changes c.requires.tied c.args.call c.args.effect c.requires.updating c.requires.granted c.requires.statement
    c.requires.effect c.requires.passes c.requires.plain in
    answer_closes c.args.session c.args.call c.args.effect.says c.args.core.now c.answer.new.core right c.in_ok-outcome.ensures.ok
