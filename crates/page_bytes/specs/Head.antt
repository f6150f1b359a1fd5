-- The head of a document's pages: page 0, of kind 2, with the next page number, which is past 0.
use Rattle.std.specs.Prelude.{ℕ, Bool, List, not, ◌&&◌, ◌==◌, slice_index, Result}
use Rattle.page_bytes.specs.declared.ids.Space.{Space}
use Rattle.page_bytes.specs.declared.ids.PageId.{PageId}
use Rattle.page_bytes.specs.declared.end.PageEnd.{PageEnd}
use Rattle.page_bytes.specs.Fields.{field, with_field}
use Rattle.page_bytes.specs.Known.{Known}
use Rattle.page_bytes.specs.Links.{and_then, asked, tested}

-- page 0 of a space
abbrev pub head_of : Space → PageId
head_of space = record { space = space; number = 0 }

-- the last page number
abbrev pub LAST_PAGE : ℕ
LAST_PAGE = 18446744073709551615

-- the number of the next new page: eight bytes of the head, at 2
abbrev pub next_page : List ℕ → ℕ
next_page head = field 8 2 head

-- the head with another next page number
abbrev pub with_next_page : List ℕ → ℕ → List ℕ
with_next_page head number = with_field 8 head 2 number

-- whether a page passes the head's test
abbrev pub is_head : List ℕ → Bool
is_head page = slice_index page 0 == 2 && not (next_page page == 0)

-- the head's bytes, once it has passed its test
abbrev pub head_in : Known → Space → Result (List ℕ) PageEnd
head_in k space = and_then (asked k (head_of space) (head_of space)) (λ head. tested (head_of space) (is_head head) head)
