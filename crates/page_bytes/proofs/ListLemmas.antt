-- What a list of changes says, by the entries that it lists.
use Rattle.std.proofs.Common.{◌≡◌, ℕ, List, [], ◌∷◌, Option, Some, refl, ap, if◌then◌else◌}
use Rattle.std.specs.Ordering.{eq_by_cmp}
use Rattle.std.specs.Map.{lookup, keys_of}
use Rattle.std.specs.BTreeMap.{is_at}
use Rattle.page_bytes.specs.declared.ids.PageId.{PageId}
use Rattle.page_bytes.specs.Order.{page_cmp}
use Rattle.page_bytes.specs.Changes.{listed, ids_of, change_of}

-- it says of a page what the entries have
pub change_of-listed : (es : List (PageId × Option (List ℕ))) (id : PageId) → change_of (listed es) id ≡ lookup (is_at (page_cmp id)) es
change_of-listed [] id = refl
change_of-listed (e ∷ es) id = ap (λ o. if eq_by_cmp page_cmp id e.0 then Some e.1 else o) (change_of-listed es id)

-- it lists their pages
pub ids_of-listed : (es : List (PageId × Option (List ℕ))) → ids_of (listed es) ≡ keys_of es
ids_of-listed [] = refl
ids_of-listed (e ∷ es) = ap (λ ids. e.0 ∷ ids) (ids_of-listed es)
