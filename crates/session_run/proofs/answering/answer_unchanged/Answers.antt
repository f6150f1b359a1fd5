use Rattle.std.proofs.Common.{Some}
use Rattle.session_run.proofs.Closing.{on_ok, ready_unrun, answer_closes}
use Rattle.session_run.proofs.answering.answer_unchanged.Goals as goal

pub returns-clause-closed : goal.returns-clause-closed
returns-clause-closed c =
    on_ok c.answer.result (λ grown. answer_closes c.args.session c.args.call c.args.says c.args.core.now c.answer.new.core c.requires.right grown)
    c.answer.ensures.ok

pub returns-clause-ready : goal.returns-clause-ready
returns-clause-ready c = on_ok c.answer.result
    (λ grown. ready_unrun c.args.session (Some c.args.call) c.args.says c.args.core.now c.answer.new.core grown c.requires.unchanged c.requires.settled)
    c.answer.ensures.ok
