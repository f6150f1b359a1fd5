use Rattle.std.proofs.Common.{length}
use Rattle.page_device.proofs.Runs.{written, keeps_others-twice, after_a_write, after_both}
use Rattle.page_device.proofs.through.write_and_sync.Goals as goal

pub returns-in_err-write_at-clause-images : goal.returns-in_err-write_at-clause-images
returns-in_err-write_at-clause-images g c =
    written c.args.file c.args.at (length c.args.bytes.now) (g.D.Device.may_leave c.args.device.now) _ _ c.write_at.ensures.crash

pub returns-in_err-write_at-clause-any_moment : goal.returns-in_err-write_at-clause-any_moment
returns-in_err-write_at-clause-any_moment g c =
    after_a_write g.D.Device.moment g.D.Device.left_since g.D.Device.may_leave g.met.D.Device.only_now c.args.file c.args.at
    (length c.args.bytes.now) c.args.device.now _ _ c.write_at.ensures.crash c.write_at.ensures.time

pub returns-clause-images : goal.returns-clause-images
returns-clause-images g c k left =
    written c.args.file c.args.at (length c.args.bytes.now) (g.D.Device.may_leave c.args.device.now) _ _ c.write_at.ensures.crash k
    (c.sync.ensures.crash k left)

pub returns-clause-others : goal.returns-clause-others
returns-clause-others g c =
    keeps_others-twice c.args.file (g.D.Device.may_leave c.args.device.now) (g.D.Device.may_leave c.write_at.new.self)
    (g.D.Device.may_leave c.sync.new.self) c.write_at.ensures.others c.sync.ensures.others

pub returns-clause-any_moment : goal.returns-clause-any_moment
returns-clause-any_moment g c =
    after_both g.D.Device.moment g.D.Device.left_since g.D.Device.may_leave g.met.D.Device.only_now c.args.file c.args.at
    (length c.args.bytes.now) c.args.device.now _ c.write_at.new.self _ c.write_at.ensures.crash c.write_at.ensures.time
    c.sync.ensures.crash c.sync.ensures.time
