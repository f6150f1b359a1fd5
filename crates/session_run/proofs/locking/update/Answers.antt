use Rattle.std.proofs.Common.{Some, refl, subst}
use Rattle.session_core.specs.Keeping.Kept.{past, AskEnds}
use Rattle.session_core.specs.declared.history.event.Event.TheVariants.{Refused}
use Rattle.session_run.specs.declared.outcome.Outcome.TheVariants.{LockHeld}
use Rattle.session_run.proofs.Outcomes.{ends_with}
use Rattle.session_run.proofs.Closing.{stays}
use Rattle.session_run.proofs.Calling.{granted_here}
use Rattle.session_run.proofs.Memory.{lacking}
use Rattle.session_run.proofs.locking.update.Goals as goal

pub answer_unchanged-requires-clause-right : goal.answer_unchanged-requires-clause-right
answer_unchanged-requires-clause-right c = lacking c.args.core.now.base c.args.session (past c.args.core.now) (Some _)

pub returns-in_default-clause-ready : goal.returns-in_default-clause-ready
returns-in_default-clause-ready c =
    stays c.answer_unchanged.result c.args.session c.args.changes.now.changes c.args.core.now c.args.core.now c.answer_unchanged.new.core refl
    c.requires.ready.tied c.answer_unchanged.ensures.ready

pub close_by_documents-requires-in-Ok-ask-clause-tied : goal.close_by_documents-requires-in-Ok-ask-clause-tied
close_by_documents-requires-in-Ok-ask-clause-tied c =
    (granted_here c.args.session c.args.changes.now.changes c.args.call c.args.core.now c.requires.ready c.requires.updating c.ask.new.self c.in-Ok.needed
    c.in-Ok.ensures c.in-Ok-ask.ensures.granted).tied

pub answer_unchanged-requires-in-Err-NoMemory-clause-right : goal.answer_unchanged-requires-in-Err-NoMemory-clause-right
answer_unchanged-requires-in-Err-NoMemory-clause-right c = lacking c.ask.new.self.base c.args.session (past c.ask.new.self) (Some _)

pub returns-in-Err-NoMemory-clause-ready : goal.returns-in-Err-NoMemory-clause-ready
returns-in-Err-NoMemory-clause-ready c =
    stays c.answer_unchanged-in-Err-NoMemory.result c.args.session c.args.changes.now.changes c.ask.new.self c.args.core.now
    c.answer_unchanged-in-Err-NoMemory.new.core
    (subst (AskEnds c.args.session c.in-Ok.needed c.args.core.now c.ask.new.self) c.in-Err-NoMemory.field-0-is c.in-Err-NoMemory.ensures.refused)
    c.requires.ready.tied c.answer_unchanged-in-Err-NoMemory.ensures.ready

pub returns-in-Err-Held-clause-outcome : goal.returns-in-Err-Held-clause-outcome
returns-in-Err-Held-clause-outcome c =
    rw c.in-Err-Held.field-0-is
    (ends_with (Refused c.args.session c.in-Err-Held.name c.in-Err-Held.holder c.in-Ok.needed) (LockHeld c.in-Err-Held.name c.in-Err-Held.holder)
    c.args.core.now c.ask.new.self
    (subst (AskEnds c.args.session c.in-Ok.needed c.args.core.now c.ask.new.self) c.in-Err-Held.field-0-is c.in-Err-Held.ensures.refused).1 refl)
