-- What lies below a layer of changes: no documents at all, or anything.
use Rattle.std.specs.Prelude.{◌≡◌}
use Rattle.xml_model.specs.declared.layers.Below.{Below}
use Rattle.xml_model.specs.declared.layers.Below.TheVariants.{Nothing, Layers}
use Rattle.xml_model.specs.Forest.{Forest, no_documents}

-- the forest can lie below the layer: it has no documents where nothing lies below, and else it may be any
abbrev pub IsBelow : Below → Forest → Type 0
IsBelow Nothing F = F ≡ no_documents
IsBelow Layers F = Unit {0}
