use Rattle.std.proofs.Common.{◌≡◌, take}
use Rattle.pyx_text.specs.Ways.{Tied}
use Rattle.pyx_text.proofs.places.Places.of.Given as goal

abbrev pub invariant-loop-index : goal.invariant-loop-index
invariant-loop-index l = record {
  tied : Tied (take l.index l.attrs) l.places.heads l.places.cells.items;
  heads : l.places.heads ≡ l.heads;
}
