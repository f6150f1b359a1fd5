use Rattle.std.proofs.Common.{◌∙◌, refl}
use Rattle.byte_edge.proofs.Known.{append_more, within_more}
use Rattle.byte_edge.proofs.writing.write_all.Goals as goal

pub loop-at-preserved : goal.loop-at-preserved
loop-at-preserved g c = (
  within_more c.args.bytes.now c.loop-at.at c.in-Ok.count c.loop-at.invariant.0 c.in-Ok.ensures.within,
  append_more (g.W.Sink.written c.args.to.now) (g.W.Sink.written c.loop-at.to)
      (g.W.Sink.written c.put.new.self) c.args.bytes.now c.loop-at.at c.in-Ok.count c.loop-at.invariant.1 c.in-Ok.ensures.appended,
  c.in-Ok.ensures.cause.kept refl ∙ c.loop-at.invariant.2,
)
