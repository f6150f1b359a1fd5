use Rattle.std.proofs.Common.{ap, ◌∙◌}
use Rattle.session_run.specs.Sessions.{Seat}
use Rattle.session_run.proofs.Untouched.{untouched}
use Rattle.session_run.proofs.session.Session.call_on.Goals as goal

pub returns-clause-others : goal.returns-clause-others
returns-clause-others c = λ t differ.
    untouched t c.self.inside.number c.args.call.now c.args.core.now c.close_by_text-called.new.core
    (λ same. differ (same ∙ ap (λ (s : Seat). s.number) c.self.view_is)) c.legal.ensures
    c.close_by_text-called.result c.close_by_text-called.ensures.closed c.close_by_text-called.ensures.err
