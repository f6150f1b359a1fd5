-- Edits of a document in the order of their places.
use Rattle.std.specs.Prelude.{ℕ, ◌+◌, ◌≤◌, List, [], ◌∷◌}
use Rattle.std.specs.declared.cmp.Ordering.{Ordering}
use Rattle.xml_model.specs.declared.edit.Edit.{Edit}
use Rattle.xml_model.specs.declared.edit.EditKind.{EditKind}
use Rattle.xml_model.specs.declared.place.PlaceStep.{PlaceStep}
use Rattle.xml_model.specs.Place.{place_cmp}

-- by their places
abbrev pub entry_cmp : List PlaceStep × EditKind → List PlaceStep × EditKind → Ordering
entry_cmp a b = place_cmp a.0 b.0

-- the numbers of the nodes rise, and the first is no less than this one
abbrev pub RiseFrom : ℕ → List Edit → Type 0
RiseFrom n [] = Unit {0}
RiseFrom n (e ∷ more) = (n ≤ e.at) × RiseFrom (e.at + 1) more
