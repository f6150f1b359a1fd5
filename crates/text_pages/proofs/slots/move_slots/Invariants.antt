use Rattle.std.proofs.Common.{◌≡◌}
use Rattle.text_pages.specs.Slots.{moved_slots}
use Rattle.text_pages.proofs.slots.move_slots.Given as goal

abbrev pub invariant-loop-slot : goal.invariant-loop-slot
invariant-loop-slot l = l.draft ≡ moved_slots l.hole l.slot l.initial.draft
