use Rattle.std.proofs.Common.{◌≡◌, ◌++◌, [], ◌∷◌, rules, sym, ap, ◌∙◌, subst}
use Rattle.page_device.specs.Image.{Image, IsBounded}
use Rattle.page_device.specs.declared.memory.Done.TheVariants.{Synced}
use Rattle.page_device.specs.Memory.{Held, image_of, held_by, held_after_sync, disk_after, now_of}
use Rattle.page_device.proofs.Replay.{disk_synced, held_by-after_sync, now_synced}
use Rattle.page_device.proofs.mem_device.MemDevice.record_sync.Goals as goal

pub invariant_of-self-2 : goal.invariant_of-self-2
invariant_of-self-2 c =
    let old = c.args.self.now in let first = image_of old.first in let file = c.args.file in
    let joined : c.push_reserved.new.self.items ≡ old.done.items ++ Synced file ∷ [] = search rules in
    let disk = disk_synced first old.done.items c.push_reserved.new.self.items file joined in
    record {
      held = c.in_ok-sync_versions.ensures.ok
          ∙ (ap (λ (h : Held). held_after_sync h file) old.held ∙ (sym (held_by-after_sync (disk_after first old.done.items) file) ∙ ap held_by (sym disk)));
      bounded = subst (λ (c : Image). IsBounded c) (sym (ap now_of disk ∙ now_synced (disk_after first old.done.items) file)) old.bounded;
    }
