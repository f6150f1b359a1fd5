-- The pages so far are written.
use Rattle.std.proofs.Common.{◌≡◌, ◌≤◌, take}
use Rattle.std.specs.Prelude.{IfSome, is_some}
use Rattle.page_device.specs.Run.{Each, LeavesOnly}
use Rattle.slot_store.specs.Planned.{written_slots}
use Rattle.slot_store.specs.Steps.{From, SlotsWritten}
use Rattle.slot_store.proofs.Writing.{WroteSome}
use Rattle.slot_store.proofs.images.write_all.Given as goal

abbrev pub invariant-loop-page : goal.invariant-loop-page
invariant-loop-page g l = record {
  told : is_some (g.D.Device.contents l.device) ≡ is_some (g.D.Device.contents l.fn.device);
  done : IfSome (g.D.Device.contents l.fn.device) (λ c. WroteSome l.placed (take l.page-index l.placed) c (g.D.Device.contents l.device));
  images : Each (g.D.Device.may_leave l.device) (From (SlotsWritten (written_slots l.placed)) (g.D.Device.may_leave l.fn.device));
  run : LeavesOnly g.D.Device.moment g.D.Device.left_since l.fn.device l.device
      (From (SlotsWritten (written_slots l.placed)) (g.D.Device.may_leave l.fn.device));
  later : g.D.Device.failures l.fn.device ≤ g.D.Device.failures l.device;
}
