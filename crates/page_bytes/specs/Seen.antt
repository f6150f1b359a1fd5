-- What is there of a space's pages, by their numbers.
use Rattle.std.specs.Prelude.{ℕ, ◌==◌, ◌||◌, Bool, List, [], Option, None, unwrap_or, if◌then◌else◌}
use Rattle.std.specs.FinMap as map
use Rattle.page_bytes.specs.declared.ids.Space.{Space}
use Rattle.page_bytes.specs.declared.ids.PageId.{PageId}
use Rattle.page_bytes.specs.Known.{Known, is_unknown}
use Rattle.page_bytes.specs.Head.{next_page}
use Rattle.page_bytes.specs.Links.{page_in}

-- the pages of a space by their numbers
abbrev pub PagesByNumber : Type 0
PagesByNumber = ℕ → Option (List ℕ)

-- what is known, and where nothing is known the pages of any map of which that is a part
abbrev pub seen : Known → (PageId → Option (List ℕ)) → Space → PagesByNumber
seen k all space n = if is_unknown k (page_in space n) then all (page_in space n) else map.get k.pages (page_in space n)

-- the bytes of a page, which has none where it isn't there
unfoldable pub bytes : PagesByNumber → ℕ → List ℕ
bytes pages n = unwrap_or (pages n) []

-- the head's next page number
abbrev pub next_of : PagesByNumber → ℕ
next_of pages = next_page (bytes pages 0)

-- the pages of a set, and no others
abbrev pub only : (ℕ → Bool) → PagesByNumber → PagesByNumber
only set pages n = if set n then pages n else None

-- the set with one page more
abbrev pub also : (ℕ → Bool) → ℕ → ℕ → Bool
also set n q = q == n || set q
