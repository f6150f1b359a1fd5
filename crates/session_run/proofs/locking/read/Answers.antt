use Rattle.std.proofs.Common.{Some}
use Rattle.session_core.specs.Keeping.Kept.{past}
use Rattle.session_run.proofs.Calling.{read_right}
use Rattle.session_run.proofs.Closing.{on_ok, answer_closes}
use Rattle.session_run.proofs.Memory.{lacking}
use Rattle.session_run.proofs.locking.read.Goals as goal

pub answer-requires-clause-right : goal.answer-requires-clause-right
answer-requires-clause-right c =
    read_right c.args.core.now.base c.args.session (past c.args.core.now) c.args.changes.now.changes c.requires.ready.tied
    c.args.call c.in-Ok.effect c.forest.result.now c.forest.ensures c.requires.reading c.requires.statement c.requires.passes
    c.in-Ok.ensures.effect c.in-Ok.ensures.plain

pub answer_unchanged-requires-clause-right : goal.answer_unchanged-requires-clause-right
answer_unchanged-requires-clause-right c = lacking c.args.core.now.base c.args.session (past c.args.core.now) (Some _)

pub returns-in-Ok-clause-closed : goal.returns-in-Ok-clause-closed
returns-in-Ok-clause-closed c =
    let right = read_right c.args.core.now.base c.args.session (past c.args.core.now) c.args.changes.now.changes c.requires.ready.tied
    c.args.call c.in-Ok.effect c.forest.result.now c.forest.ensures c.requires.reading c.requires.statement c.requires.passes
    c.in-Ok.ensures.effect c.in-Ok.ensures.plain in
    on_ok c.answer.result (λ grown. answer_closes c.args.session c.args.call c.in-Ok.effect.says c.args.core.now c.answer.new.core right grown)
    c.answer.ensures.ok
