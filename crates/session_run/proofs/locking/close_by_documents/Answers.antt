use Rattle.std.proofs.Common.{Some, refl}
use Rattle.session_run.proofs.Closing.{stays}
use Rattle.session_core.specs.Keeping.Kept.{past}
use Rattle.session_run.proofs.Memory.{lacking}
use Rattle.session_run.proofs.locking.close_by_documents.Goals as goal

pub answer_unchanged-requires-clause-right : goal.answer_unchanged-requires-clause-right
answer_unchanged-requires-clause-right c = lacking c.args.core.now.base c.args.session (past c.args.core.now) (Some _)

pub returns-in-Err-clause-ready : goal.returns-in-Err-clause-ready
returns-in-Err-clause-ready c =
    stays c.answer_unchanged.result c.args.session c.args.changes.now.changes c.args.core.now c.args.core.now c.answer_unchanged.new.core refl c.requires.tied
    c.answer_unchanged.ensures.ready
