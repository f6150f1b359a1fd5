use Rattle.std.proofs.Common.{Some, OnOk, refl, subst}
use Rattle.session_core.specs.declared.history.event.BeginKind.TheVariants as kinds
use Rattle.session_core.specs.declared.history.event.Event.TheVariants as events
use Rattle.session_core.specs.Keeping.Kept.{Kept, past}
use Rattle.session_run.specs.Tied.{StaysReady}
use Rattle.session_run.proofs.Tying.{tied_began}
use Rattle.session_run.proofs.Closing.{ready_behind}
use Rattle.session_run.proofs.Memory.{lacking}
use Rattle.session_run.proofs.transaction.begin.Goals as goal

pub answer_unchanged-requires-clause-right : goal.answer_unchanged-requires-clause-right
answer_unchanged-requires-clause-right c = lacking c.begin_update.new.self.base c.args.session (past c.begin_update.new.self) (Some _)

pub returns-in-Ok-clause-ready : goal.returns-in-Ok-clause-ready
returns-in-Ok-clause-ready c = λ changes tied.
    ready_behind c.args.session changes c.args.core.now c.begin_update.new.self
    (events.Began c.args.session kinds.Updating) c.in-Ok.ensures.ok refl tt c.requires.settled
    (tied_began c.args.core.now.base c.args.session (past c.args.core.now) kinds.Updating changes c.requires.idle tied)

pub returns-in-Err-clause-ready : goal.returns-in-Err-clause-ready
returns-in-Err-clause-ready c =
    subst (λ (k : Kept). OnOk c.answer_unchanged.result (StaysReady c.args.session k c.answer_unchanged.new.core)) c.in-Err.ensures.err
    c.answer_unchanged.ensures.ready
