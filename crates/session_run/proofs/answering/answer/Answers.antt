use Rattle.session_core.proofs.Answering.{answers_keep_legal}
use Rattle.session_core.specs.Keeping.Kept.{past}
use Rattle.session_run.proofs.Memory.{undamaged}
use Rattle.session_run.proofs.Outcomes.{order_answers}
use Rattle.session_run.proofs.answering.answer.Goals as goal

pub post-requires : goal.post-requires
post-requires c = record {
  legal = answers_keep_legal c.args.core.now.base c.args.core.now.journal c.args.session
      (record { call = c.args.call; says = c.args.says }) c.legal.ensures c.requires.right.0 (undamaged c.args.says c.requires.right.1) c.requires.follows;
}

pub outcome_of-outcome-requires : goal.outcome_of-outcome-requires
outcome_of-outcome-requires c =
    order_answers c.args.core.now.base.numbers c.args.session (past c.args.core.now) c.args.call c.args.says c.requires.right.0.in_order
