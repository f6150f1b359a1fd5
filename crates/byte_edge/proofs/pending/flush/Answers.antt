use Rattle.std.proofs.Common.{refl}
use Rattle.byte_edge.specs.Sending.{stage}
use Rattle.byte_edge.proofs.Sent.{failed, broke_waiting}
use Rattle.byte_edge.proofs.pending.flush.Goals as goal

pub returns-in_err-write_all-clause-sends : goal.returns-in_err-write_all-clause-sends
returns-in_err-write_all-clause-sends g c =
    failed c.from_residual.result c.from_residual.ensures.0
    (broke_waiting c.waiting.result.now (stage (g.W.Sink.written c.args.to.now) (g.W.Sink.faults c.args.to.now) c.args.pending.now)
    (stage (g.W.Sink.written c.write_all.new.to) (g.W.Sink.faults c.write_all.new.to) c.args.pending.now) c.waiting.ensures
    c.in_err-write_all.ensures.prefix c.in_err-write_all.ensures.cause.later (c.in_err-write_all.ensures.cause.failed refl))
