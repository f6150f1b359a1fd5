use Rattle.std.proofs.Common.{◌≡◌, ◌++◌, drop}
use Rattle.tree_edit.proofs.copies.push_attrs.Given as goal

abbrev pub invariant-loop-attr : goal.invariant-loop-attr
invariant-loop-attr l = l.out ++ drop l.attr-index l.attr-items ≡ l.initial.out ++ l.attr-items
