use Rattle.std.proofs.Common.{◌≡◌}
use Rattle.text_pages.specs.Slots.{others_free}
use Rattle.text_pages.proofs.slots.is_only_piece.Given as goal

abbrev pub invariant-loop-other : goal.invariant-loop-other
invariant-loop-other l = l.only ≡ others_free l.other l.slot l.page
