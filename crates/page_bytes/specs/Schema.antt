-- The schema pages. The first one's number stands in the head at 10. A schema page, of kind 3, has the number of its
-- entries at 2, the next schema page at 8, and the entries from 16 on. An entry has its id, which is past 0, and 21 bytes
-- on the length of its name, which stands behind it.
use Rattle.std.specs.Prelude.{◌≡◌, ℕ, zero, suc, ◌+◌, ◌<◌, ◌⊎◌, Bool, not, ◌&&◌, ◌==◌, nat_le, List, slice_index, Option, Some, None, Result, Ok, Err, if◌then◌else◌}
use Rattle.page_bytes.specs.declared.ids.Space.{Space}
use Rattle.page_bytes.specs.declared.ids.Addr.{Addr}
use Rattle.page_bytes.specs.declared.end.PageEnd.{PageEnd}
use Rattle.page_bytes.specs.declared.end.PageEnd.TheVariants.{Damaged, NoMemory}
use Rattle.page_bytes.specs.PageNumber.{page_number}
use Rattle.page_bytes.specs.Known.{Known}
use Rattle.page_bytes.specs.Fields.{field}
use Rattle.page_bytes.specs.Head.{head_in}
use Rattle.page_bytes.specs.Links.{page_in, and_then, asked, tested}

-- the first byte of every schema page
abbrev pub SCHEMA_KIND : ℕ
SCHEMA_KIND = 3

-- the number of the first schema page, from the head; 0 where there is none
abbrev pub first_schema_page : List ℕ → ℕ
first_schema_page head = field 8 10 head

-- how many entries a schema page has
abbrev pub entry_count : List ℕ → ℕ
entry_count page = field 2 2 page

-- the number of the schema page after this one; 0 after the last
abbrev pub next_schema_page : List ℕ → ℕ
next_schema_page page = field 8 8 page

-- the id of the entry that stands at a place of a schema page: its first four bytes
abbrev pub entry_id : ℕ → List ℕ → ℕ
entry_id at page = field 4 at page

-- where the entry behind an entry stands
abbrev pub entry_end : ℕ → List ℕ → ℕ
entry_end at page = at + 26 + slice_index page (at + 25)

-- whether an entry lies inside the page and has an id
abbrev pub is_entry : ℕ → List ℕ → Bool
is_entry at page = nat_le (at + 26) 4096 && (nat_le (entry_end at page) 4096 && not (entry_id at page == 0))

-- of so many entries from a place on, where the one with an id stands, if there is one. An entry that fails its test on
-- the way there damages the page
abbrev pub entry_among : Space → ℕ → ℕ → ℕ → List ℕ → ℕ → Result (Option ℕ) PageEnd
entry_among space number zero at page id = Ok None
entry_among space number (suc n) at page id =
    if not (is_entry at page) then Err (Damaged (page_in space number))
    else if entry_id at page == id then Ok (Some at)
    else entry_among space number n (entry_end at page) page id

-- the bytes of a schema page, to which the page `from` leads
abbrev pub schema_page : Known → Space → ℕ → ℕ → Result (List ℕ) PageEnd
schema_page k space from number =
    and_then (asked k (page_in space from) (page_in space number)) (λ bytes. tested (page_in space number) (slice_index bytes 0 == SCHEMA_KIND) bytes)

-- how far the schema pages have been looked through: the page that is next, and the page that leads there; or where the
-- entry was found
pub data Looked : Type 0 where
  Next : ℕ → ℕ → Looked
  Found : ℕ → ℕ → Looked

-- with the entry found on a page, its place there; and without, the next page
abbrev pub looked_at : ℕ → List ℕ → Option ℕ → Looked
looked_at number page None = Next number (next_schema_page page)
looked_at number page (Some at) = Found number at

-- the page is had and its entries are looked through, from byte 16 on
abbrev pub looked_on_page : Known → Space → ℕ → ℕ → ℕ → Result Looked PageEnd
looked_on_page k space id from number =
    and_then (schema_page k space from number)
    (λ page. and_then (entry_among space number (entry_count page) 16 page id) (λ found. Ok (looked_at number page found)))

-- one page more, if there is one
abbrev pub looked_on : Known → Space → ℕ → Looked → Result Looked PageEnd
looked_on k space id (Found number at) = Ok (Found number at)
looked_on k space id (Next from number) = if number == 0 then Ok (Next from number) else looked_on_page k space id from number

-- the head's first schema page
abbrev pub first_in : Known → Space → Result ℕ PageEnd
first_in k space = and_then (head_in k space) (λ head. Ok (first_schema_page head))

-- so many pages, from the first on
abbrev pub looked : Known → Space → ℕ → ℕ → Result Looked PageEnd
looked k space id zero = and_then (first_in k space) (λ first. Ok (Next 0 first))
looked k space id (suc n) = and_then (looked k space id n) (looked_on k space id)

-- the pages lead back to one that was passed: the page with the link that does so is damaged
abbrev pub SchemaLeadsBack : Known → Space → ℕ → PageEnd → Type 0
SchemaLeadsBack k space id end =
    (m : ℕ) × ((n : ℕ) × ((number : ℕ)
    × ((first : ℕ) × ((second : ℕ)
    × ((m < n) × (looked k space id m ≡ Ok (Next first number)) × (looked k space id n ≡ Ok (Next second number)) × (0 < number)
    × (end ≡ Damaged (page_in space second)))))))

-- an entry is found where it stands, or there is none on any page. A refusal is that of the first page that can't be had,
-- or the pages lead back
abbrev pub IsSchemaEntry : Known → Space → ℕ → Result (Option Addr) PageEnd → Type 0
IsSchemaEntry k space id (Ok (Some place)) = (n : ℕ) × (looked k space id n ≡ Ok (Found (page_number place) place.at))
IsSchemaEntry k space id (Ok None) = (n : ℕ) × ((from : ℕ) × (looked k space id n ≡ Ok (Next from 0)))
IsSchemaEntry k space id (Err end) = (end ≡ NoMemory) ⊎ (((n : ℕ) × (looked k space id n ≡ Err end)) ⊎ SchemaLeadsBack k space id end)
