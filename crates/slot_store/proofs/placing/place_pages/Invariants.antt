-- The pages so far are placed, and what is left decides.
use Rattle.std.proofs.Common.{◌≡◌, ◌++◌, [], map}
use Rattle.std.specs.FinMap as maps
use Rattle.slot_store.specs.Slots.{GivesSlots}
use Rattle.slot_store.specs.Planned.{newest_images, before_of, written_slots}
use Rattle.slot_store.proofs.placing.place_pages.Given as goal

abbrev pub invariant-loop-id : goal.invariant-loop-id
invariant-loop-id l = record {
  pages : map before_of l.placed.items ++ newest_images l.commit l.id-iterator ≡ newest_images l.commit l.initial.id-iterator;
  slots : GivesSlots (λ s. maps.contains_key l.used s) 0 l.from [] (written_slots l.placed.items);
}
