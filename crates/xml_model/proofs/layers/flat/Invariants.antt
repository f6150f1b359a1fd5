use Rattle.std.proofs.Common.{◌≡◌, take}
use Rattle.xml_model.specs.Forest.{no_documents}
use Rattle.xml_model.specs.Changes.{laid_over, changes_of_entries, forest_of_layers}
use Rattle.xml_model.proofs.layers.flat.Given as goal

abbrev pub invariant-loop-layer : goal.invariant-loop-layer
invariant-loop-layer l = laid_over (changes_of_entries l.all.entries) no_documents ≡ forest_of_layers (take l.layer-index l.layers)
