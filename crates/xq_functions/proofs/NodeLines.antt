-- Lines of nodes: what stands at a stored node is what its document has there.
use Rattle.std.proofs.Common.{◌≡◌, List, [], ◌∷◌, Option, Some, None, refl}
use Rattle.std.specs.FinMap as forests
use Rattle.std.specs.Option.{option_map, option_and_then}
use Rattle.xml_model.specs.declared.node.Doc.{Doc}
use Rattle.xml_model.specs.declared.place.PlaceStep.{PlaceStep}
use Rattle.xml_model.specs.Forest.{Forest}
use Rattle.xml_model.specs.Items.{Made, stored, node_at}
use Rattle.xml_model.specs.Nav.{Stored, standing, stored_at}
use Rattle.xml_model.specs.Place.{the_document, placed_from}

at : (o : Option Doc) (place : List PlaceStep)
    → placed_from place (option_map the_document o) ≡ option_and_then (λ root. standing root place) (option_map the_document o)
at (Some doc) place = refl
at None [] = refl
at None (s ∷ more) = refl

-- A stored node is seen as the node of its document at its place.
pub stored_seen : (F : Forest) (made : Made) (s : Stored) → node_at (forests.get F) made (record { tree = stored s.name; place = s.place }) ≡ stored_at F s
stored_seen F made s = at (forests.get F s.name) s.place
