use Rattle.std.proofs.Common.{Some, length, ap, ⊎_elim}
use Rattle.page_device.specs.Memory.{image_of}
use Rattle.page_device.proofs.Replay.{either, on_ok, on_err, wrote_disk, wrote_now, wrote_crash, wrote_others, wrote_time, same_torn, same_crash, same_others, same_time}
use Rattle.page_device.proofs.mem_device.MemDeviceDevice.write_at.Goals as goal

pub returns-clause-done : goal.returns-clause-done
returns-clause-done c = on_ok c.try_write.result _ _
    (wrote_disk c.args.file c.args.at c.args.bytes.now _ _ _ _ (ap image_of c.try_write.ensures.first)) c.try_write.ensures.ok

pub returns-clause-written : goal.returns-clause-written
returns-clause-written c =
    on_ok c.try_write.result _ _
    (λ w. ap Some (wrote_now c.args.file c.args.at c.args.bytes.now _ _ _ _ (ap image_of c.try_write.ensures.first) w)) c.try_write.ensures.ok

pub returns-clause-torn : goal.returns-clause-torn
returns-clause-torn c = on_err c.try_write.result _ _
    (λ same. same_torn _ _ _ _ (ap image_of c.try_write.ensures.first) same c.args.file c.args.at (length c.args.bytes.now)) c.try_write.ensures.err

pub returns-clause-crash : goal.returns-clause-crash
returns-clause-crash c = ⊎_elim (wrote_crash c.args.file c.args.at c.args.bytes.now _ _ _ _ (ap image_of c.try_write.ensures.first))
    (λ same. same_crash _ _ _ _ (ap image_of c.try_write.ensures.first) same c.args.file c.args.at (length c.args.bytes.now))
    (either c.try_write.result _ _ c.try_write.ensures.ok c.try_write.ensures.err)

pub returns-clause-others : goal.returns-clause-others
returns-clause-others c = ⊎_elim (wrote_others c.args.file c.args.at c.args.bytes.now _ _ _ _ (ap image_of c.try_write.ensures.first))
    (λ same. same_others _ _ _ _ (ap image_of c.try_write.ensures.first) same c.args.file)
    (either c.try_write.result _ _ c.try_write.ensures.ok c.try_write.ensures.err)

pub returns-clause-time : goal.returns-clause-time
returns-clause-time c = ⊎_elim (wrote_time c.args.file c.args.at c.args.bytes.now _ _ _ _ (ap image_of c.try_write.ensures.first))
    (same_time _ _ _ _ (ap image_of c.try_write.ensures.first)) (either c.try_write.result _ _ c.try_write.ensures.ok c.try_write.ensures.err)
