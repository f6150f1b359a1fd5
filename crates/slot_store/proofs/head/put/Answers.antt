use Rattle.std.proofs.Common.{length}
use Rattle.page_device.specs.Run.{InPart}
use Rattle.page_device.proofs.Runs.{written, after_a_write, weaker}
use Rattle.slot_store.specs.Steps.{From, BehindGate}
use Rattle.slot_store.proofs.Steps.{from_part, torn_behind_gate}
use Rattle.slot_store.proofs.head.put.Goals as goal

pub returns-clause-images : goal.returns-clause-images
returns-clause-images g c i left =
    let d = c.args.device.now in let f = c.args.file in let n = length c.args.bytes.now in
    from_part (BehindGate f) f c.args.at n (λ a b torn. torn_behind_gate f c.args.at n a b c.requires.place torn) (g.D.Device.may_leave d) i
    (written f c.args.at n (g.D.Device.may_leave d) _ _ c.write_at.ensures.crash i left)

pub returns-clause-any_moment : goal.returns-clause-any_moment
returns-clause-any_moment g c =
    let d = c.args.device.now in let f = c.args.file in let n = length c.args.bytes.now in
    weaker g.D.Device.moment g.D.Device.left_since d c.write_at.new.self (InPart f c.args.at n (g.D.Device.may_leave d))
    (From (BehindGate f) (g.D.Device.may_leave d))
    (after_a_write g.D.Device.moment g.D.Device.left_since g.D.Device.may_leave g.met.D.Device.only_now f c.args.at n d _ _ c.write_at.ensures.crash
    c.write_at.ensures.time)
    (from_part (BehindGate f) f c.args.at n (λ a b torn. torn_behind_gate f c.args.at n a b c.requires.place torn) (g.D.Device.may_leave d))
