use Rattle.std.proofs.Common.{◌≡◌, ◌++◌, drop}
use Rattle.xq_edits.specs.Names.{names_of}
use Rattle.xq_edits.proofs.names.add_names.Given as goal

abbrev pub invariant-loop-attr : goal.invariant-loop-attr
invariant-loop-attr l = names_of l.all ++ names_of (drop l.attr-index l.attr-items) ≡ names_of l.initial.all ++ names_of l.attr-items
