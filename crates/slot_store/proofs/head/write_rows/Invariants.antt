-- The rows so far are written behind what the file begins with.
use Rattle.std.proofs.Common.{◌≡◌, ◌≤◌, ◌-◌, ◌++◌, List, ℕ, length, take}
use Rattle.std.specs.Prelude.{IfSome, is_some}
use Rattle.std.specs.List.{flat_map}
use Rattle.page_device.specs.Image.{bytes_of}
use Rattle.page_device.specs.Run.{Each, LeavesOnly}
use Rattle.slot_store.specs.Planned.{placed_bytes}
use Rattle.slot_store.specs.Steps.{From, BehindGate, BeginsWith}
use Rattle.slot_store.proofs.head.write_rows.Given as goal

abbrev pub invariant-loop-place : goal.invariant-loop-place
invariant-loop-place g l = record {
  within : l.place ≤ length l.rows;
  buffer : length l.buffer ≡ length l.fn.buffer;
  told : is_some (g.D.Device.contents l.device) ≡ is_some (g.D.Device.contents l.fn.device);
  begins : IfSome (g.D.Device.contents l.fn.device) (λ c. (front rest : List ℕ) → length front ≡ l.at → bytes_of c l.file ≡ front ++ rest
      → BeginsWith l.file (front ++ flat_map placed_bytes (take l.place l.rows)) c (g.D.Device.contents l.device));
  images : Each (g.D.Device.may_leave l.device) (From (BehindGate l.file) (g.D.Device.may_leave l.fn.device));
  run : LeavesOnly g.D.Device.moment g.D.Device.left_since l.fn.device l.device (From (BehindGate l.file) (g.D.Device.may_leave l.fn.device));
  later : g.D.Device.failures l.fn.device ≤ g.D.Device.failures l.device;
}

abbrev pub decreases-loop-place : goal.decreases-loop-place
decreases-loop-place g l = length l.rows - l.place
