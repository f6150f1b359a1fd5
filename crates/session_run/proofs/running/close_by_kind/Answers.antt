use Rattle.std.proofs.Common.{◌≡◌, None, Some, refl, subst}
use Rattle.xq_ast.specs.declared.call.Call.TheVariants.{Checkpoint}
use Rattle.session_core.specs.declared.history.event.Says.TheVariants as says
use Rattle.session_core.specs.History.Answering as answers
use Rattle.session_core.specs.Keeping.Kept.{past}
use Rattle.session_core.specs.History.States.{state}
use Rattle.session_core.specs.History.Refusals.{refused_in, work_of}
use Rattle.session_run.proofs.Memory.{unrun_here}
use Rattle.session_run.proofs.Closing.{stays}
use Rattle.session_run.proofs.Calling.{checkpoints_idle}
use Rattle.session_run.proofs.running.close_by_kind.Goals as goal

pub answer_unchanged-requires-clause-right : goal.answer_unchanged-requires-clause-right
answer_unchanged-requires-clause-right c =
    unrun_here c.args.core.now.base c.args.session (past c.args.core.now) (Some Checkpoint) says.Done (answers.AnswersInOrder.makes_checkpoint (record {
      is = refl;
      idle = checkpoints_idle (state c.args.session (past c.args.core.now)) c.requires.certain
          (subst (λ call. refused_in (state c.args.session (past c.args.core.now)) (work_of call) ≡ None) c.in-Checkpoint.is c.requires.passes);
      settled = c.requires.ready.settled;
      says_so = refl;
    })) refl refl tt

pub returns-in-Begin-clause-ready : goal.returns-in-Begin-clause-ready
returns-in-Begin-clause-ready c =
    stays c.begin.result c.args.session c.args.changes.now.changes c.args.core.now c.args.core.now c.begin.new.core refl c.requires.ready.tied
    c.begin.ensures.ready
