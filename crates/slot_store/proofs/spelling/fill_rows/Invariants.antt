-- The rows so far stand at the front.
use Rattle.std.proofs.Common.{◌≡◌, ◌*◌, length, take}
use Rattle.std.specs.List.{flat_map}
use Rattle.slot_store.specs.Planned.{placed_bytes}
use Rattle.slot_store.proofs.spelling.fill_rows.Given as goal

abbrev pub invariant-loop-row : goal.invariant-loop-row
invariant-loop-row l = record {
  at : l.at ≡ l.row-index * 32;
  long : length l.buffer ≡ length l.fn.buffer;
  bytes : take l.at l.buffer ≡ flat_map placed_bytes (take l.row-index l.rows);
}
