-- The order of spaces and of pages: by commit, then by ordinal, then by number.
use Rattle.std.specs.Prelude.{Bool, ◌&&◌, ◌==◌}
use Rattle.std.specs.Coded.{Coded}
use Rattle.std.specs.declared.cmp.Ordering.{Ordering}
use Rattle.std.specs.Ordering.{nat_cmp, ordering_then}
use Rattle.page_bytes.specs.declared.ids.Space.{Space}
use Rattle.page_bytes.specs.declared.ids.PageId.{PageId}
use Rattle.page_bytes.specs.contracts.ids.PageId as the_page
use Rattle.page_bytes.specs.contracts.ids.Space as the_space

-- spaces, by commit and then by ordinal
abbrev pub space_cmp : Space → Space → Ordering
space_cmp x y = ordering_then (nat_cmp x.commit y.commit) (nat_cmp x.ordinal y.ordinal)

-- pages, by space and then by number
abbrev pub page_cmp : PageId → PageId → Ordering
page_cmp x y = ordering_then (space_cmp x.space y.space) (nat_cmp x.number y.number)

-- whether a page is one of the space
abbrev pub is_in : Space → PageId → Bool
is_in space id = id.space.commit == space.commit && id.space.ordinal == space.ordinal

-- how a space and a page's name are stored
abbrev pub space_code : Coded Space
space_code = the_space.the_row.coded

-- a page's name, as its row in the program is stored
abbrev pub page_code : Coded PageId
page_code = the_page.the_row.coded
