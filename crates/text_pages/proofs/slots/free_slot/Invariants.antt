use Rattle.std.proofs.Common.{◌≡◌, ◌-◌}
use Rattle.text_pages.specs.Slots.{free_slot, free_from}
use Rattle.text_pages.proofs.slots.free_slot.Given as goal

abbrev pub invariant-loop-slot : goal.invariant-loop-slot
invariant-loop-slot l = free_slot l.page ≡ free_from (l.count - l.slot) l.slot l.page
