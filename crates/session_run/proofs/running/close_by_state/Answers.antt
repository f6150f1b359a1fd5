use Rattle.std.proofs.Common.{refl, sym, ap, ◌∙◌}
use Rattle.session_core.specs.Keeping.Kept.{past}
use Rattle.session_core.specs.History.Refusals.{refused_in, work_of}
use Rattle.session_run.proofs.Memory.{refused_right}
use Rattle.session_run.proofs.Closing.{stays}
use Rattle.session_run.proofs.running.close_by_state.Goals as goal

pub answer_unchanged-requires-clause-right : goal.answer_unchanged-requires-clause-right
answer_unchanged-requires-clause-right c =
    refused_right c.args.core.now.base c.args.session (past c.args.core.now) c.args.call c.in-Some.code
    (ap (λ x. refused_in x (work_of c.args.call)) (sym c.state.ensures) ∙ sym c.in-Some.ensures)

pub returns-in-Some-clause-ready : goal.returns-in-Some-clause-ready
returns-in-Some-clause-ready c =
    stays c.answer_unchanged.result c.args.session c.args.changes.now.changes c.args.core.now c.args.core.now c.answer_unchanged.new.core refl
    c.requires.ready.tied c.answer_unchanged.ensures.ready
