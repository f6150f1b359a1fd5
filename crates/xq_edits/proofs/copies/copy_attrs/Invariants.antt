use Rattle.std.proofs.Common.{◌≡◌, take}
use Rattle.xq_edits.proofs.copies.copy_attrs.Given as goal

abbrev pub invariant-loop-attr : goal.invariant-loop-attr
invariant-loop-attr l = l.all ≡ take l.attr-index l.attr-items
