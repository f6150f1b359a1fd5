use Rattle.std.proofs.Common.{Some, ap, ⊎_elim}
use Rattle.page_device.specs.Memory.{image_of}
use Rattle.page_device.proofs.Replay.{either, on_ok, on_err, synced_disk, synced_now, synced_crash, synced_others, synced_durable, synced_time, same_images, same_others, same_file, same_time}
use Rattle.page_device.proofs.mem_device.MemDeviceDevice.sync.Goals as goal

pub returns-clause-done : goal.returns-clause-done
returns-clause-done c = on_ok c.try_sync.result _ _ (synced_disk c.args.file _ _ _ _ (ap image_of c.try_sync.ensures.first)) c.try_sync.ensures.ok

pub returns-clause-durable : goal.returns-clause-durable
returns-clause-durable c = on_ok c.try_sync.result _ _ (synced_durable c.args.file _ _ _ _ (ap image_of c.try_sync.ensures.first)) c.try_sync.ensures.ok

pub returns-clause-contents : goal.returns-clause-contents
returns-clause-contents c =
    on_ok c.try_sync.result _ _ (λ joined. ap Some (synced_now c.args.file _ _ _ _ (ap image_of c.try_sync.ensures.first) joined)) c.try_sync.ensures.ok

pub returns-clause-failed : goal.returns-clause-failed
returns-clause-failed c =
    on_err c.try_sync.result _ _ (λ same. same_file _ _ _ _ (ap image_of c.try_sync.ensures.first) same c.args.file) c.try_sync.ensures.err

pub returns-clause-crash : goal.returns-clause-crash
returns-clause-crash c =
    ⊎_elim (synced_crash c.args.file _ _ _ _ (ap image_of c.try_sync.ensures.first))
    (λ same. (same_images _ _ _ _ (ap image_of c.try_sync.ensures.first) same).0)
    (either c.try_sync.result _ _ c.try_sync.ensures.ok c.try_sync.ensures.err)

pub returns-clause-others : goal.returns-clause-others
returns-clause-others c =
    ⊎_elim (synced_others c.args.file _ _ _ _ (ap image_of c.try_sync.ensures.first))
    (λ same. same_others _ _ _ _ (ap image_of c.try_sync.ensures.first) same c.args.file)
    (either c.try_sync.result _ _ c.try_sync.ensures.ok c.try_sync.ensures.err)

pub returns-clause-time : goal.returns-clause-time
returns-clause-time c = ⊎_elim (synced_time c.args.file _ _ _ _ (ap image_of c.try_sync.ensures.first))
    (same_time _ _ _ _ (ap image_of c.try_sync.ensures.first))
    (either c.try_sync.result _ _ c.try_sync.ensures.ok c.try_sync.ensures.err)
