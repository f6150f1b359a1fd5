-- How what a workspace keeps stands for what contracts see: the pages below, the drafts over them, the pages that
-- are gone, and the spaces that are whole. A draft hides what is gone; what is gone or whole hides what is below.
use Rattle.std.specs.Prelude.{◌≡◌, ℕ, Bool, false, not, ◌&&◌, ◌⊎◌, List, Option, Some, None, if◌then◌else◌}
use Rattle.std.specs.Ordering.{eq_by_cmp}
use Rattle.std.specs.Option.{option_or}
use Rattle.std.specs.FinMap as map
use Rattle.page_bytes.specs.declared.ids.PageId.{PageId}
use Rattle.page_bytes.specs.Order.{page_cmp}
use Rattle.page_bytes.specs.Changes.{IsChange, IsLongChange}
use Rattle.page_bytes.specs.Known.{PageMap, PageIds, Spaces}
use Rattle.page_bytes.specs.Overlay.{overlay}
use Rattle.page_bytes.specs.Work.{Work}

-- whether a page below is still there where it has no draft
abbrev pub stays : PageIds → Spaces → PageId → Bool
stays gone whole id = not (map.contains_key whole id.space) && not (map.contains_key gone id)

-- the pages that are there: the drafts, and below them what is neither gone nor of a whole space
abbrev pub pages_of : PageMap → PageMap → PageIds → Spaces → PageMap
pages_of below drafts gone whole = overlay drafts (map.retain_keys below (stays gone whole))

-- the workspace that contracts see, with these pages below and those that are there now
abbrev pub work_of : PageMap → PageMap → PageIds → Spaces → Work
work_of below drafts gone whole = record { below = below; now = record { pages = pages_of below drafts gone whole; whole = whole; freed = gone } }

-- the drafts have the page's bytes, its draft's or else those below
abbrev pub Owns : PageMap → PageMap → PageId → PageMap → Type 0
Owns drafts below id new = (x : List ℕ) × (option_or (map.get drafts id) (map.get below id) ≡ Some x) × (new ≡ map.insert drafts id x)

-- what is there of a page, by its draft and what is below
abbrev pub now_of : PageIds → Spaces → PageId → Option (List ℕ) → Option (List ℕ) → Option (List ℕ)
now_of gone whole id draft page = option_or draft (if stays gone whole id then page else None)

-- the table of changes has the change of this page, and all else stays
abbrev pub Notes : map.FinMap page_cmp (Option (List ℕ)) → PageId → Option (List ℕ) → Option (List ℕ) → map.FinMap page_cmp (Option (List ℕ)) → Type 0
Notes old id below now new =
    (map.get old id ≡ None → IsChange below now (map.get new id)) × ((q : PageId) → eq_by_cmp page_cmp q id ≡ false → map.get new q ≡ map.get old q)

-- all pages of the table have 4,096 bytes
abbrev pub AreLong : map.FinMap page_cmp (Option (List ℕ)) → Type 0
AreLong changes = (q : PageId) → IsLongChange (map.get changes q)

-- how far a listing has come with a page: either its change is noted, or all of it is left to be looked at
abbrev pub IsListedAt : PageMap → PageMap → PageIds → Spaces → PageId → Option (List ℕ) → Option (List ℕ) → Option (Option (List ℕ)) → Type 0
IsListedAt below drafts gone whole q page draft change =
    ((page ≡ map.get below q) × (draft ≡ map.get drafts q) × (change ≡ None))
    ⊎ ((page ≡ None) × (draft ≡ None) × IsChange (map.get below q) (now_of gone whole q (map.get drafts q) (map.get below q)) change)

-- and so with every page
abbrev pub IsListed : PageMap → PageMap → PageIds → Spaces → PageMap → PageMap → map.FinMap page_cmp (Option (List ℕ)) → Type 0
IsListed below drafts gone whole below_left drafts_left changes =
    (q : PageId) → IsListedAt below drafts gone whole q (map.get below_left q) (map.get drafts_left q) (map.get changes q)

-- where nothing is left below, what was listed of any workspace stays listed
abbrev pub KeepsListed : PageMap → map.FinMap page_cmp (Option (List ℕ)) → PageMap → map.FinMap page_cmp (Option (List ℕ)) → Type 0
KeepsListed drafts_old old drafts_new new =
    (below drafts : PageMap) (gone : PageIds) (whole : Spaces) → IsListed below drafts gone whole map.empty drafts_old old
    → IsListed below drafts gone whole map.empty drafts_new new
