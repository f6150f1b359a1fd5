use Rattle.std.proofs.Common.{◌≡◌, ℕ, ◌+◌, ◌-◌, ◌/◌, ◌≤◌, List, Option, length}
use Rattle.page_bytes.specs.declared.ids.PageId.{PageId}
use Rattle.page_bytes.specs.Own.{KeepsToOwn}
use Rattle.text_pages.specs.Keeping.{texts_own}
use Rattle.text_pages.specs.Putting.{piece_count, pieces_put_in, put_in}
use Rattle.text_pages.proofs.putting.put_text.Given as goal

abbrev pub invariant-loop-left : goal.invariant-loop-left
invariant-loop-left l = record {
  put : pieces_put_in l.left l.work l.space l.next l.bytes ≡ put_in l.initial.work l.space l.bytes;
  own : (all : PageId → Option (List ℕ)) → KeepsToOwn texts_own (piece_count l.bytes - l.left) l.initial.work l.work all l.space;
  within : l.left ≤ (length l.bytes + 4073) / 4074;
}

abbrev pub decreases-loop-left : goal.decreases-loop-left
decreases-loop-left l = l.left
