use Rattle.std.proofs.Common.{None, refl, subst, sym, ap, ◌∙◌}
use Rattle.session_core.specs.declared.history.event.Says.TheVariants as says
use Rattle.session_run.specs.Calls.{IsAnswerInMemory}
use Rattle.session_core.specs.Keeping.Kept.{past, with_event}
use Rattle.session_core.proofs.Beside.{none_in_doubt}
use Rattle.session_run.specs.Answers.{answered}
use Rattle.session_run.proofs.Closing.{on_ok, ready_unrun}
use Rattle.session_run.proofs.Texts.{good_names, called_read, called_end, right_end}
use Rattle.session_run.proofs.running.close_by_text.Goals as goal

pub close_by_state-requires-clause-certain : goal.close_by_state-requires-clause-certain
close_by_state-requires-clause-certain c =
    none_in_doubt c.args.core.now.base (past c.args.core.now) c.legal.ensures.settling c.requires.ready.settled c.args.session

pub close_by_state-requires-clause-named : goal.close_by_state-requires-clause-named
close_by_state-requires-clause-named c = good_names c.args.text.now c.in-Ok.call c.in-Ok.ensures.found

pub answer-requires-clause-right : goal.answer-requires-clause-right
answer-requires-clause-right c =
    subst (λ code. IsAnswerInMemory c.args.core.now.base c.args.session (past c.args.core.now) None (says.Error code)) (sym c.code.ensures)
    (right_end c.args.core.now.base c.args.session (past c.args.core.now) c.in-Err.end
    (none_in_doubt c.args.core.now.base (past c.args.core.now) c.legal.ensures.settling c.requires.ready.settled c.args.session))

pub returns-in-Ok-clause-closed : goal.returns-in-Ok-clause-closed
returns-in-Ok-clause-closed c =
    on_ok c.close_by_state.result (called_read c.args.session c.args.text.now c.in-Ok.call c.in-Ok.ensures.found c.args.core.now c.close_by_state.new.core)
    c.close_by_state.ensures.closed

pub returns-in-Err-clause-closed : goal.returns-in-Err-clause-closed
returns-in-Err-clause-closed c =
    on_ok c.answer.result (λ grown. called_end c.args.session c.args.text.now c.args.core.now c.answer.new.core c.in-Err.end c.in-Err.ensures.refused
    (right_end c.args.core.now.base c.args.session (past c.args.core.now) c.in-Err.end
    (none_in_doubt c.args.core.now.base (past c.args.core.now) c.legal.ensures.settling c.requires.ready.settled c.args.session))
    (grown ∙ ap (λ code. with_event (answered c.args.session None (says.Error code)) c.args.core.now) c.code.ensures)) c.answer.ensures.ok

pub returns-in-Err-clause-ready : goal.returns-in-Err-clause-ready
returns-in-Err-clause-ready c =
    on_ok c.answer.result (λ grown. ready_unrun c.args.session None
    (says.Error c.code.result) c.args.core.now c.answer.new.core grown refl c.requires.ready.settled
    c.args.changes.now.changes c.requires.ready.tied) c.answer.ensures.ok
