use Rattle.std.proofs.Common.{◌≡◌, ◌+◌, true, vec_len}
use Rattle.std.specs.FinMap as map
use Rattle.std.specs.Vec.Iter.{into_iter_items, into_iter_len}
use Rattle.flat_doc.specs.Putting.{with_pages_from}
use Rattle.flat_doc.proofs.putting.put_all.Given as goal

abbrev pub invariant-loop-page : goal.invariant-loop-page
invariant-loop-page l = record {
  left : with_pages_from l.work l.space l.number (into_iter_items l.rest) ≡ with_pages_from l.initial.work l.space 0 l.fn.pages.items;
  whole : map.contains_key l.work.now.whole l.space ≡ true;
  room : l.number + into_iter_len l.rest ≡ vec_len l.fn.pages;
}

abbrev pub decreases-loop-page : goal.decreases-loop-page
decreases-loop-page l = into_iter_len l.rest
