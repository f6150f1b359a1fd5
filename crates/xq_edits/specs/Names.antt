-- The names of an element's attributes once changes are made.
use Rattle.std.specs.Prelude.{ℕ, List, [], ◌∷◌, ◌++◌, map, if◌then◌else◌, Option, None, Some}
use Rattle.std.specs.Ordering.{is_eq, is_lt}
use Rattle.xml_model.specs.declared.edit.EditKind.{EditKind}
use Rattle.xml_model.specs.declared.edit.EditKind.TheVariants as edit
use Rattle.xml_model.specs.declared.node.Attr.{Attr}
use Rattle.xml_model.specs.DocumentOrder.{node_cmp}
use Rattle.xml_model.specs.Edits.{Change}
use Rattle.xml_model.specs.Forest.{Forest}
use Rattle.xml_model.specs.Nav.{Stored, stored_at, told_at}

abbrev pub names_of : List Attr → List (List ℕ)
names_of attrs = map (λ a. a.name) attrs

-- the names in the place of an attribute of this name
abbrev pub names_edited : List ℕ → Option EditKind → List (List ℕ)
names_edited name None = name ∷ []
names_edited name (Some (edit.Into attrs kids)) = name ∷ []
names_edited name (Some (edit.Before kids)) = name ∷ []
names_edited name (Some (edit.After kids)) = name ∷ []
names_edited name (Some edit.Delete) = []
names_edited name (Some edit.Undeep) = []
names_edited name (Some (edit.Put attrs kids)) = names_of attrs
names_edited name (Some (edit.Rename other)) = other ∷ []

-- what is done to a node that none of the changes comes before
abbrev pub first_change : List Change → Stored → Option EditKind
first_change [] n = None
first_change (c ∷ changes) n = if is_eq (node_cmp c.node n) then Some c.what else None

-- the changes without those before a node
abbrev pub changes_from : Stored → List Change → List Change
changes_from n [] = []
changes_from n (c ∷ changes) = if is_lt (node_cmp c.node n) then changes_from n changes else c ∷ changes

-- what is done to a node by a change, or else by the first of others
abbrev pub change_at : Change → List Change → Stored → Option EditKind
change_at last changes n = if is_eq (node_cmp last.node n) then Some last.what else first_change changes n

abbrev pub name_at : Forest → Stored → List ℕ
name_at F n = (told_at (stored_at F n)).name

-- the names in the places of attributes, along which the changes are gone through once
abbrev pub names_along : Forest → Change → List Change → List Stored → List (List ℕ)
names_along F last changes [] = []
names_along F last changes (n ∷ nodes) = names_edited (name_at F n) (change_at last (changes_from n changes) n) ++ names_along F last
    (changes_from n changes) nodes
