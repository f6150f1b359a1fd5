use Rattle.std.proofs.Common.{◌≡◌, vec_len}
use Rattle.xml_model.specs.Changes.{forest_of_layers}
use Rattle.xml_model.proofs.layers.settle.Given as goal

abbrev pub invariant-loop-layers : goal.invariant-loop-layers
invariant-loop-layers l = forest_of_layers l.layers.items ≡ forest_of_layers l.initial.layers.items

abbrev pub decreases-loop-layers : goal.decreases-loop-layers
decreases-loop-layers l = vec_len l.layers
