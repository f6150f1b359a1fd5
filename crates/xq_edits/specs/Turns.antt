-- Changes of which each may be made after those before it.
use Rattle.std.specs.Prelude.{◌≡◌, List, [], ◌∷◌, ◌++◌, map, Ok}
use Rattle.xml_model.specs.Edits.{Change, outermost}
use Rattle.xml_model.specs.Nav.{Stored}

abbrev pub nodes_of : List Change → List Stored
nodes_of changes = map (λ c. c.node) changes

-- after the changes of the first list none of these is of a node inside one that comes before it
abbrev pub AreOutermost : List Change → List Change → Type 0
AreOutermost done [] = Unit {0}
AreOutermost done (c ∷ more) = (outermost done c.node ≡ Ok c.node) × AreOutermost (done ++ c ∷ []) more
