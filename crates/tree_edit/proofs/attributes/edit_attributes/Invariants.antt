use Rattle.std.proofs.Common.{◌≡◌, ◌+◌, ◌<◌, ◌^◌, ◌++◌, drop, length}
use Rattle.tree_edit.specs.Numbered.{look, IsAt, numbered_attributes}
use Rattle.tree_edit.proofs.attributes.edit_attributes.Given as goal

abbrev pub invariant-loop-attr : goal.invariant-loop-attr
invariant-loop-attr l = record {
  made : l.all ++ numbered_attributes (look l.edits) l.spot.number (drop l.attr-index l.attr-items) ≡ numbered_attributes (look l.edits) l.initial.spot.number l.attr-items;
  number : l.spot.number + length (drop l.attr-index l.attr-items) ≡ l.initial.spot.number + length l.attr-items;
  room : l.initial.spot.number + length l.attr-items < 2 ^ 32;
  at : IsAt l.edits l.spot.number l.spot.next;
}
