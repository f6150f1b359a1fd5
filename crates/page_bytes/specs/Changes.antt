-- The list of what changed: each page whose bytes now aren't those below, once, in rising order.
use Rattle.std.specs.Prelude.{◌≡◌, ◌≢◌, ℕ, List, [], ◌∷◌, length, Option, Some, None, map, if◌then◌else◌}
use Rattle.std.specs.Ordering.{eq_by_cmp}
use Rattle.page_bytes.specs.declared.ids.PageId.{PageId}
use Rattle.page_bytes.specs.declared.lists.PageChange.{PageChange}
use Rattle.page_bytes.specs.Order.{page_cmp}

-- the pages that are listed
abbrev pub ids_of : List PageChange → List PageId
ids_of cs = map (λ c. c.id) cs

-- the entries of a table of changes, listed
abbrev pub listed : List (PageId × Option (List ℕ)) → List PageChange
listed es = map (λ e. record { id = e.0; page = e.1 }) es

-- what the list says of a page, if it says anything
abbrev pub change_of : List PageChange → PageId → Option (Option (List ℕ))
change_of [] id = None
change_of (c ∷ cs) id = if eq_by_cmp page_cmp id c.id then Some c.page else change_of cs id

-- a page that is listed has 4,096 bytes
abbrev pub IsLongChange : Option (Option (List ℕ)) → Type 0
IsLongChange None = Unit {0}
IsLongChange (Some None) = Unit {0}
IsLongChange (Some (Some page)) = length page ≡ 4096

-- nothing is said where a page is now what it was below, and else what it is now
abbrev pub IsChange : Option (List ℕ) → Option (List ℕ) → Option (Option (List ℕ)) → Type 0
IsChange below now None = below ≡ now
IsChange below now (Some page) = (page ≡ now) × (below ≢ now)
