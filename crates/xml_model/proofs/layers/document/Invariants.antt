use Rattle.std.proofs.Common.{◌≡◌, length}
use Rattle.std.specs.FinMap as map
use Rattle.xml_model.specs.Changes.{forest_of_layers}
use Rattle.xml_model.proofs.layers.document.Given as goal

abbrev pub invariant-loop-layer : goal.invariant-loop-layer
invariant-loop-layer l = map.get (forest_of_layers l.layers) l.name ≡ map.get (forest_of_layers l.older) l.name

abbrev pub decreases-loop-layer : goal.decreases-loop-layer
decreases-loop-layer l = length l.older
