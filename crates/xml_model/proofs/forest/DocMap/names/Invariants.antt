use Rattle.std.proofs.Common.{◌≡◌, ◌++◌}
use Rattle.xml_model.proofs.Sorting.{names_in}
use Rattle.xml_model.proofs.forest.DocMap.names.Given as goal

abbrev pub invariant-loop-name : goal.invariant-loop-name
invariant-loop-name l = l.names ++ names_in l.name-iterator ≡ names_in l.initial.name-iterator
