use Rattle.std.proofs.Common.{Some, refl}
use Rattle.xq_ast.specs.declared.call.Call.TheVariants.{Commit}
use Rattle.xq_ast.specs.declared.code.Code.TheVariants as codes
use Rattle.xq_ast.specs.declared.code.SpentKind.TheVariants as spent
use Rattle.session_core.specs.declared.history.event.Says.TheVariants as says
use Rattle.session_core.specs.History.Settling.{last_number}
use Rattle.session_core.specs.History.Answering as answers
use Rattle.session_core.specs.Keeping.Kept.{past}
use Rattle.session_run.proofs.Closing.{stays}
use Rattle.session_run.proofs.Calling.{none_left}
use Rattle.session_run.proofs.Memory.{lacking, unrun_here}
use Rattle.session_run.proofs.transaction.commit.Goals as goal

pub answer_unchanged-requires-clause-right : goal.answer_unchanged-requires-clause-right
answer_unchanged-requires-clause-right c =
    unrun_here c.args.core.now.base c.args.session (past c.args.core.now) (Some Commit) (says.Error (codes.Spent spent.Commit last_number))
    (answers.AnswersInOrder.finds_no_number (record {
      is = refl;
      updating = c.requires.updating;
      settled = c.requires.ready.settled;
      none_left = none_left c.args.core.now.base (past c.args.core.now) c.newest.result c.newest.ensures c.if-newest-eq18446744073709551615.true;
      says_so = refl;
    })) refl refl tt

pub returns-then-newest-eq18446744073709551615-clause-ready : goal.returns-then-newest-eq18446744073709551615-clause-ready
returns-then-newest-eq18446744073709551615-clause-ready c =
    stays c.answer_unchanged.result c.args.session c.args.changes.now.changes c.args.core.now c.args.core.now c.answer_unchanged.new.core refl
    c.requires.ready.tied c.answer_unchanged.ensures.ready

pub answer_unchanged-requires-in-Err-clause-right : goal.answer_unchanged-requires-in-Err-clause-right
answer_unchanged-requires-in-Err-clause-right c = lacking c.commit_changes.new.core.base c.args.session (past c.commit_changes.new.core) (Some _)

pub returns-in-Err-clause-ready : goal.returns-in-Err-clause-ready
returns-in-Err-clause-ready c =
    stays c.answer_unchanged-in-Err.result c.args.session c.args.changes.now.changes c.commit_changes.new.core c.args.core.now
    c.answer_unchanged-in-Err.new.core
    c.in-Err.ensures.err c.requires.ready.tied c.answer_unchanged-in-Err.ensures.ready
