-- What a binding binds for one item.
use Rattle.std.specs.Prelude.{ℕ, ◌+◌, pos, List, [], ◌∷◌, Option, Some, None}
use Rattle.xq_values.specs.declared.item.Item.{Item}
use Rattle.xq_values.specs.declared.item.Item.TheVariants.{Int}
use Rattle.xq_values.specs.declared.row.Variable.{Variable}

abbrev pub variable_of : List ℕ → List Item → Variable
variable_of name value = record { name = name; value = value }

-- the item, and behind it its position where that has a name
abbrev pub bound_item : List ℕ → Option (List ℕ) → ℕ → Item → List Variable
bound_item name None position item = variable_of name (item ∷ []) ∷ []
bound_item name (Some at) position item = variable_of name (item ∷ []) ∷ variable_of at (Int (pos position) ∷ []) ∷ []

-- what it binds for each item, from a position on
abbrev pub bound_of : List ℕ → Option (List ℕ) → ℕ → List Item → List (List Variable)
bound_of name at position [] = []
bound_of name at position (item ∷ items) = bound_item name at position item ∷ bound_of name at (position + 1) items
