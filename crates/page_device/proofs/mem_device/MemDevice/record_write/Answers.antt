use Rattle.std.proofs.Common.{◌≡◌, rules, sym, ap, ◌∙◌, subst}
use Rattle.page_device.specs.Image.{IsBounded}
use Rattle.page_device.specs.Memory.{Disk, Held, Writes, image_of, held_of, held_of_versions, held_by, held_after_write, disk_after, now_of}
use Rattle.page_device.proofs.Replay.{disk_wrote, held_by-after_write, bounded_wrote}
use Rattle.page_device.proofs.mem_device.MemDevice.record_write.Goals as goal

pub invariant_of-self-2 : goal.invariant_of-self-2
invariant_of-self-2 c =
    let old = c.make_versions.new.self in let first = image_of old.first in let file = c.args.file in let at = c.args.at in let bytes = c.args.bytes.now in
    let writes : Writes file at bytes old.done.items c.push_reserved.new.self.items =
    record { copy = c.in_ok-copy.copy; same = search rules; joined = search rules } in
    let disk = disk_wrote first old.done.items c.push_reserved.new.self.items file at bytes writes in
    let held : held_of_versions c.in-Some.versions ≡ held_by (disk_after first old.done.items) = ap (held_of old.first) (sym c.in-Some.is) ∙ old.held in
    record {
      held = c.in_ok-write.ensures.ok
          ∙ (ap (λ (h : Held). held_after_write h file at bytes) held
          ∙ (sym (held_by-after_write (disk_after first old.done.items) file at bytes) ∙ ap held_by (sym disk)));
      bounded = subst (λ (d : Disk). IsBounded (now_of d)) (sym disk) (bounded_wrote (disk_after first old.done.items) file at bytes c.requires old.bounded);
    }

pub returns-clause-ok : goal.returns-clause-ok
returns-clause-ok c = record { copy = c.in_ok-copy.copy; same = search rules; joined = search rules }
