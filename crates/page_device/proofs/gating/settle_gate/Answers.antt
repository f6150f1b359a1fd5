use Rattle.page_device.proofs.Runs.{keeps_others-twice}
use Rattle.page_device.proofs.Replay.{with_own}
use Rattle.page_device.proofs.gating.settle_gate.Goals as goal

pub returns-clause-others : goal.returns-clause-others
returns-clause-others g c =
    keeps_others-twice c.args.file (g.D.Device.may_leave c.args.device.now) (g.D.Device.may_leave c.sync.new.self) (g.D.Device.may_leave c.is_open.new.device)
    c.sync.ensures.others (λ k was. (k, c.is_open.ensures.crash.1 k was, with_own k c.args.file))
