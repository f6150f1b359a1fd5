use Rattle.std.proofs.Common.{◌++◌, [], map, refl, sym, ap, ◌∙◌, subst}
use Rattle.std.proofs.lemmas.List.{append-nil}
use Rattle.std.specs.FinMap as maps
use Rattle.slot_store.specs.Slots.{GivesSlots}
use Rattle.slot_store.specs.Planned.{before_of, with_image, written_slots}
use Rattle.slot_store.proofs.Giving.{gives_none, placed_kept, placed_given}
use Rattle.slot_store.proofs.placing.place_image.Goals as goal

pub returns-in-Absent-clause-pages : goal.returns-in-Absent-clause-pages
returns-in-Absent-clause-pages c =
    let old = map before_of c.args.placed.now.items in
    sym (append-nil old) ∙ ap (λ im. old ++ with_image c.args.id im []) (sym c.in-Absent.is)

pub returns-in-Absent-clause-slots : goal.returns-in-Absent-clause-slots
returns-in-Absent-clause-slots c =
    gives_none (λ s. maps.contains_key c.args.used.now s) c.args.from.now (written_slots c.args.placed.now.items)

pub returns-in_ok-push_placed-in-Slot-clause-slots : goal.returns-in_ok-push_placed-in-Slot-clause-slots
returns-in_ok-push_placed-in-Slot-clause-slots c =
    placed_kept (λ s. maps.contains_key c.args.used.now s) c.args.from.now c.args.placed.now.items c.push_placed.new.placed.items _
    c.in_ok-push_placed-in-Slot.ensures.ok refl

pub returns-in_ok-push_placed-in-Resident-clause-slots : goal.returns-in_ok-push_placed-in-Resident-clause-slots
returns-in_ok-push_placed-in-Resident-clause-slots c =
    let found = c.in_ok-slot-in-Resident.ensures.found in
    subst (λ to. GivesSlots (λ s. maps.contains_key c.args.used.now s) c.args.from.now to (written_slots c.args.placed.now.items)
    (written_slots c.push_placed-in-Resident.new.placed.items)) (sym c.in_ok-slot-in-Resident.ensures.behind)
    (placed_given (λ s. maps.contains_key c.args.used.now s) c.args.from.now c.args.placed.now.items c.push_placed-in-Resident.new.placed.items _ _
    c.in_ok-push_placed-in-Resident.ensures.ok refl found.0 found.1 found.2 found.3)
