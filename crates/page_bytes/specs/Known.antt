-- What is known of the pages of some documents: those that are there with their bytes, the spaces of which nothing
-- else is there, and the pages that were freed. A set is a finite map with nothing at each key.
use Rattle.std.specs.Prelude.{ℕ, Bool, not, ◌&&◌, ◌||◌, List, refl, IsTrue}
use Rattle.std.specs.Coded.{Coded, code_by, coded×, coded_ℕ, coded_list}
use base.Stored.{coded_unit}
use Rattle.std.specs.FinMap as map
use Rattle.page_bytes.specs.declared.ids.PageId.{PageId}
use Rattle.page_bytes.specs.Order.{space_cmp, page_cmp, space_code, page_code}

-- pages with their 4,096 bytes
abbrev pub PageMap : Type 0
PageMap = map.FinMap page_cmp (List ℕ)

-- a set of pages
abbrev pub PageIds : Type 0
PageIds = map.FinMap page_cmp (Unit {0})

-- a set of spaces
abbrev pub Spaces : Type 0
Spaces = map.FinMap space_cmp (Unit {0})

-- the pages that are there, the whole spaces, and the freed pages
pub record Known : Type 0 where
  pub pages : PageMap
  pub whole : Spaces
  pub freed : PageIds

-- whether the page is there
abbrev pub is_there : Known → PageId → Bool
is_there k id = map.contains_key k.pages id

-- whether it is known as absent: it isn't there, and its space is whole or it was freed
abbrev pub is_absent : Known → PageId → Bool
is_absent k id = not (is_there k id) && (map.contains_key k.whole id.space || map.contains_key k.freed id)

-- whether nothing is known of it, so that who asks for it needs it
abbrev pub is_unknown : Known → PageId → Bool
is_unknown k id = not (is_there k id) && not (map.contains_key k.whole id.space || map.contains_key k.freed id)

-- all that was there is there
abbrev pub Keeps : Known → Known → Type 0
Keeps old new = (id : PageId) → IsTrue (is_there old id) → IsTrue (is_there new id)

-- what a map of pages alone tells: no space is whole, and no page was freed
abbrev pub known_of : PageMap → Known
known_of pages = record { pages = pages; whole = map.empty; freed = map.empty }

-- how these are stored
abbrev pub page_map_code : Coded PageMap
page_map_code = map.code page_code (coded_list coded_ℕ)

-- what is known, stored as its pages, its whole spaces and its freed pages
abbrev pub known_code : Coded Known
known_code =
    code_by (PageMap × (Spaces × PageIds)) (coded× page_map_code (coded× (map.code space_code coded_unit) (map.code page_code coded_unit)))
    (λ k. (k.pages, (k.whole, k.freed))) (λ p. record { pages = p.0; whole = p.1.0; freed = p.1.1 }) (λ _. refl)
