use Rattle.std.proofs.Common.{◌≡◌, ◌<◌, ◌≤◌, ◌-◌, ◌%◌, length, get_or, true}
use Rattle.xml_model.specs.Trees.{has_attribute}
use Rattle.pyx_text.specs.Ways.{cell_of, Leads, IsLed}
use Rattle.pyx_text.proofs.Ways.{Other}
use Rattle.pyx_text.proofs.places.Places.free_cell.Given as goal

abbrev pub invariant-loop-from : goal.invariant-loop-from
invariant-loop-from l = record {
  inside : l.from ≤ length l.attrs;
  shallow : l.depth ≤ l.from;
  at : l.cell ≡ cell_of l.self.heads l.name l.depth l.from;
  held : l.next ≡ get_or l.self.cells.items l.cell 0 % 8388608;
  came : Leads l.self.heads l.self.cells.items l.name l.depth 0 0 l.from;
  other : Other l.attrs l.name l.from;
  onward : has_attribute l.name l.attrs ≡ true → ∥ IsLed l.attrs l.self.heads l.self.cells.items l.name l.depth l.from ∥₁;
}

abbrev pub decreases-loop-from : goal.decreases-loop-from
decreases-loop-from l = length l.attrs - l.from
