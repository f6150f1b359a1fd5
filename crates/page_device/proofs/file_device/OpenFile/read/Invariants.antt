use Rattle.std.proofs.Common.{◌≤◌, length}
use Rattle.page_device.proofs.file_device.OpenFile.read.Given as goal

-- the bytes so far are within the buffer
abbrev pub invariant-loop : goal.invariant-loop
invariant-loop l = l.count ≤ length l.into
